-- The story: the calls up to the supply failure and after it, on object o, and what is said between. Assumes nothing.
use Rattle.std.specs.Prelude.{ℕ, List, [], ◌∷◌, ◌++◌, codes}
use Rattle.rules.specs.Calls.{Call, create, put, cut, opens, closes, collect}

-- a netlist and a verdict; the verdict is cut away, and the netlist is put again five times
abbrev pub first_calls : ℕ → List Call
first_calls o =
    create o (codes "adder.net")
    ∷ opens o
    ∷ put o 1 (codes "rev 1: XOR a b sum")
    ∷ put o 2 (codes "FAIL at pin 7")
    ∷ cut o 1
    ∷ put o 1 (codes "rev 2: XOR a c sum")
    ∷ put o 1 (codes "rev 3: XOR b c sum")
    ∷ put o 1 (codes "rev 4: XOR c b sum")
    ∷ put o 1 (codes "rev 5: XOR c a sum")
    ∷ put o 1 (codes "rev 6: XOR b a sum")
    ∷ []

-- the last put again, and a cleaning
abbrev pub second_calls : ℕ → List Call
second_calls o = opens o ∷ put o 1 (codes "rev 6: XOR b a sum") ∷ closes o ∷ collect ∷ []

abbrev pub begins : List ℕ
begins =
    codes "A tester keeps a netlist on a flash chip of 3 blocks with 4 chunks each.\n"
    ++ (codes "The chip is blank and off, and its supply will fail in the tenth act. An act\n"
    ++ (codes "is a program or an erase that passes the chip's checks.\n"
    ++ (codes "\n"
    ++ (codes "The tester mounts the store, creates a file, and puts the netlist and a\n"
    ++ (codes "verdict. The verdict is wrong and is cut away, which fills block 0. Then the\n"
    ++ (codes "netlist is put again and again, until block 1 is full too. For the next put a\n"
    ++ codes "block has to be cleaned, and the supply fails:\n"))))))

abbrev pub fails : List ℕ
fails =
    codes "\n"
    ++ (codes "The supply is back. The cut header of block 0 is copied to block 2, but the\n"
    ++ (codes "erase has left one record of block 0: the verdict that was cut away. While\n"
    ++ codes "that header stands, the verdict stays hidden:\n"))

abbrev pub goes_on : List ℕ
goes_on =
    codes "\n"
    ++ (codes "The store is attached and mounted anew. The put that broke off is made again:\n"
    ++ (codes "block 0 is erased, block 1 is cleaned, and the record is programmed. Then one\n"
    ++ codes "more block is cleaned:\n"))

abbrev pub ends : List ℕ
ends =
    codes "\n"
    ++ (codes "The files are right. The netlist is the one that was put last, and the\n"
    ++ codes "verdict has not returned:\n")
