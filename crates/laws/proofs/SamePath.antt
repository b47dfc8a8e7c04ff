-- The path of `PathMeaning` and that of `Changes` are one path: both say which one the state gets behind its paths.
--   SamePath P C        the path P that is laid and the change C have the same fragment's name, land, darts and ends
-- trail_same: the same darts lead from the same port to the same port. same_path: it is the same path.
-- Assumes nothing.
use mathlib.Core.Path.{◌≡◌, sym, ap, ◌∙◌, subst}
use mathlib.Core.Logic.{◌≢◌}
use mathlib.Core.Bool.{Bool}
use mathlib.Core.List.{List, [], ◌∷◌, ◌++◌}
use Prim.Native.Nat.{ℕ}
use lib.ListN.{length, get_or}
use lib.Seq.{get_or-append_seam}
use Rattle.rules.specs.Terms.{enters}
use Rattle.rules.specs.Laying.{Path, State, within}
use Rattle.laws.proofs.Trails.{Trail}
use Rattle.laws.proofs.Paths.{leads_trail}
use Rattle.laws.proofs.Changes.{Changed}
use Rattle.laws.proofs.PathMeaning.{PathLaid}

pub record SamePath (np : ℕ) (ps : List ℕ) (on : List Bool) (s t : State) (P : PathLaid np ps on s t) (C : Changed ps s t) : Type 0 where
  pub name : P.fragment.name ≡ C.name
  pub land : P.land ≡ C.land
  pub darts : P.darts ≡ C.path
  pub x : P.x ≡ C.x
  pub y : P.y ≡ C.y

snoc_same : {A : Type 0} (l : List A) (a b : A) → l ++ (a ∷ []) ≡ l ++ (b ∷ []) → a ≡ b
snoc_same {A} l a b e = sym (get_or-append_seam l a [] a) ∙ ap (λ (m : List A). get_or m (length l) a) e ∙ get_or-append_seam l b [] a

trail_same : (ps : List ℕ) (l : List ℕ) (x y v w : ℕ) → Trail ps x l y → Trail ps v l w → x ≢ y → (x ≡ v) × (y ≡ w)
trail_same ps [] x y v w h k n = absurd (n h)
trail_same ps (d ∷ l) x y v w h k n = (sym h.0 ∙ k.0, same_end (enters ps d) l h.1 k.1)
  where
    same_end : (p : ℕ) (m : List ℕ) → Trail ps p m y → Trail ps p m w → y ≡ w
    same_end p [] a b = sym a ∙ b
    same_end p (e ∷ m) a b = same_end (enters ps e) m a.1 b.1

pub same_path : (np : ℕ) (ps : List ℕ) (on : List Bool) (s t : State) (P : PathLaid np ps on s t) (C : Changed ps s t) → SamePath np ps on s t P C
same_path np ps on s t P C =
    let e = snoc_same {A = Path} s.paths _ _ (sym P.paths ∙ C.paths) in
    let darts : P.darts ≡ C.path = ap (λ (q : Path). q.darts) e in
    let ends = trail_same ps C.path C.x C.y P.x P.y C.way (subst (λ (l : List ℕ). Trail ps P.x l P.y) darts (leads_trail ps (within np ps on P.fragment) P.x P.darts P.y P.means.route.0)) C.apart in
    record { name = ap (λ (q : Path). q.fragment) e; land = ap (λ (q : Path). q.land) e; darts = darts; x = sym ends.0; y = sym ends.1 }
