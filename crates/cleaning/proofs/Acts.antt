-- Acts done one after the other: what holds of a list of acts holds of its parts. Assumes nothing.
use Rattle.std.proofs.Common.{ℕ, List, [], ◌∷◌, ◌++◌, inl, inr}
use Rattle.flash.specs.declared.chunks.Chunk.{Chunk}
use Rattle.rules.specs.Places.{Flash, Act, runs, does}
use Rattle.rules.specs.Machine.{Breaks}
use Rattle.rules.specs.Runs.{TakesAll}

module _ (n p : ℕ) where
  pub takes-first : (acts more : List Act) (f : Flash) → TakesAll n p f (acts ++ more) → TakesAll n p f acts
  takes-first [] more f t = tt
  takes-first (a ∷ acts) more f t = (t.0, takes-first acts more (does f a) t.1)

  pub takes-rest : (acts more : List Act) (f : Flash) → TakesAll n p f (acts ++ more) → TakesAll n p (runs f acts) more
  takes-rest [] more f t = t
  takes-rest (a ∷ acts) more f t = takes-rest acts more (does f a) t.1

module _ (x : Act) (bs : List (List Chunk)) where
  pub breaks-first : (acts more : List Act) (f : Flash) → Breaks f acts x bs → Breaks f (acts ++ more) x bs
  breaks-first [] more f h = absurd h
  breaks-first (a ∷ acts) more f (inl h) = inl h
  breaks-first (a ∷ acts) more f (inr h) = inr (breaks-first acts more (does f a) h)

  pub breaks-rest : (acts more : List Act) (f : Flash) → Breaks (runs f acts) more x bs → Breaks f (acts ++ more) x bs
  breaks-rest [] more f h = h
  breaks-rest (a ∷ acts) more f h = inr (breaks-rest acts more (does f a) h)
