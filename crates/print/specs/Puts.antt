-- What writing into a lent buffer leaves, and what a function that is handed over has given; `post d n` says that it gives n for d.
--   Put l at old new r     l was written into the buffer old at index `at`: new is the buffer afterwards, and r the index behind what was written
--   Room l o               the buffer has room for l behind what is written
--   Wrote l o n            l was written behind what was, which has made the buffer n of o; it keeps its reference
--   Gave post ds ns        for the numbers ds it gives ns
--   Led post d ds e        it leads from d through the numbers ds, one after another, to e
-- Assumes nothing.
use Rattle.std.specs.Prelude.{◌≡◌, List, [], ◌∷◌, ◌++◌, ℕ, ◌+◌, ◌≤◌, length, take, drop}
use Rattle.print.specs.declared.Out.{Out}

pub record Put (l : List ℕ) (at : ℕ) (old new : List ℕ) (r : ℕ) : Type 0 where
  pub stop : r ≡ at + length l
  pub held : new ≡ take at old ++ l ++ drop (at + length l) old

abbrev pub Room : List ℕ → Out → Type 0
Room l o = o.at + length l ≤ length o.bytes.now

pub record Wrote (l : List ℕ) (o n : Out) : Type 0 where
  pub put : Put l o.at o.bytes.now n.bytes.now n.at
  pub kept : n.bytes.ghost_name ≡ o.bytes.ghost_name

abbrev pub Gave : (ℕ → ℕ → Type 0) → List ℕ → List ℕ → Type 0
Gave post [] [] = Unit {0}
Gave post [] (n ∷ ns) = ⊥
Gave post (d ∷ ds) [] = ⊥
Gave post (d ∷ ds) (n ∷ ns) = post d n × Gave post ds ns

abbrev pub Led : (ℕ → ℕ → Type 0) → ℕ → List ℕ → ℕ → Type 0
Led post d [] e = d ≡ e
Led post d (x ∷ ds) e = (d ≡ x) × ((y : ℕ) × post x y × Led post y ds e)
