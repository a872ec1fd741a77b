-- A change of the code, as the rules have it. Only private functions cite this. Assumes nothing.
use Rattle.rules.specs.Calls.{Call, create, put, cut, rename, delete}
use Rattle.store.specs.declared.change.Change.{Change}
use Rattle.store.specs.declared.change.Change.TheVariants.{Create, Put, Cut, Rename, Delete}

abbrev pub asked : Change → Call
asked (Create o name) = create o name.now
asked (Put o j bs) = put o j bs.now
asked (Cut o n) = cut o n
asked (Rename o name) = rename o name.now
asked (Delete o) = delete o
