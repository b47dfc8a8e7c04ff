-- Corners: at every corner of a land the next dart leaves the port that a dart enters, so that a turn leaves the port of its dart (refusal 13).
--   Closed ps l     the darts l are a trail that comes back to where it began
-- closed_turn, closed_listed, closed_split: closed trails stay closed, from whichever dart they are listed, and in a split. land_meets: along a land that is a closed trail each dart's next leaves the port that the dart enters.
-- Assumes nothing.
use mathlib.Core.Path.{subst, sym, ◌≡◌, ap, ◌∙◌, refl}
use mathlib.Core.Logic.{⊎_elim}
use mathlib.Core.List.{List, [], ◌∷◌, ◌++◌, append-nil}
use Prim.Native.Nat.{ℕ, ◌≤◌}
use native.Mathlib.Nat.{not-suc-le-zero}
use native.Mathlib.Omega.{arith}
use Rattle.rules.specs.Terms.{leaves, enters, next, listed}
use Rattle.rules.specs.Laying.{back}
use Rattle.laws.proofs.Counts.{is_cases, count}
use Rattle.laws.proofs.Runs.{Run, Land, listed_keeps}
use Rattle.laws.proofs.Trails.{Trail, trail_append, trail_cut, trail_back}

abbrev pub Closed : List ℕ → List ℕ → Type 0
Closed ps [] = Unit {0}
Closed ps (d ∷ l) = Trail ps (leaves ps d) (d ∷ l) (leaves ps d)

pub closed_of : (ps : List ℕ) (p : ℕ) (l : List ℕ) → Trail ps p l p → Closed ps l
closed_of ps p [] h = tt
closed_of ps p (d ∷ l) h = subst (λ (z : ℕ). Trail ps z (d ∷ l) z) (sym h.0) h

pub closed_turn : (ps l m : List ℕ) → Closed ps (l ++ m) → Closed ps (m ++ l)
closed_turn ps [] m h = subst (Closed ps) (sym (append-nil m)) h
closed_turn ps (d ∷ l) [] h = subst (Closed ps) (append-nil (d ∷ l)) h
closed_turn ps (d ∷ l) (e ∷ m) h =
    let r = trail_cut ps (leaves ps d) (d ∷ l) e m (leaves ps d) h in
    trail_append ps (leaves ps e) (e ∷ m) (leaves ps d) (d ∷ l) (leaves ps e) r.1 r.0

pub closed_listed : (ps l : List ℕ) → Closed ps l → Closed ps (listed l)
closed_listed ps l h = listed_keeps (Closed ps) (closed_turn ps) l h

-- the two lands of a split
pub closed_split : (ps : List ℕ) (x : ℕ) (a : List ℕ) (y : ℕ) (b q : List ℕ) → Closed ps ((x ∷ a) ++ (y ∷ b)) → Trail ps (leaves ps x) q (leaves ps y)
    → Closed ps (listed (q ++ y ∷ b)) × Closed ps (listed (back q ++ x ∷ a))
closed_split ps x a y b q h t =
    let r = trail_cut ps (leaves ps x) (x ∷ a) y b (leaves ps x) h in (
      closed_listed ps (q ++ y ∷ b) (closed_of ps (leaves ps x) (q ++ y ∷ b) (trail_append ps (leaves ps x) q (leaves ps y) (y ∷ b) (leaves ps x) t r.1)),
      closed_listed ps (back q ++ x ∷ a) (closed_of ps (leaves ps y) (back q ++ x ∷ a) (trail_append ps (leaves ps y) (back q) (leaves ps x) (x ∷ a) (leaves ps y) (trail_back ps (leaves ps x) q (leaves ps y) t) r.0)),
    )

-- along a land that follows the turns and is a closed trail, the next dart leaves the port that a dart enters
pub run_meets : (ps t : List ℕ) (d : ℕ) (l : List ℕ) (e : ℕ) → Run t d l e → Trail ps (leaves ps d) (d ∷ l) (leaves ps e) → (z : ℕ) → 1 ≤ count z (d ∷ l) → leaves ps (next t z) ≡ enters ps z
unfolding count
run_meets ps t d [] e h k z c =
    ⊎_elim (λ q. ap (λ (w : ℕ). leaves ps (next t w)) q ∙ ap (leaves ps) h ∙ sym k.1 ∙ ap (enters ps) (sym q)) (λ n. absurd (not-suc-le-zero {n = 0} (omega arith))) (is_cases z d)
run_meets ps t d (x ∷ l) e h k z c =
    ⊎_elim (λ q. ap (λ (w : ℕ). leaves ps (next t w)) q ∙ ap (leaves ps) h.0 ∙ k.1.0 ∙ ap (enters ps) (sym q))
    (λ n. run_meets ps t x l e h.1 (refl, k.1.1) z (omega arith)) (is_cases z d)

pub land_meets : (ps t l : List ℕ) → Land t l → Closed ps l → (z : ℕ) → 1 ≤ count z l → leaves ps (next t z) ≡ enters ps z
land_meets ps t [] h k z c = absurd h
land_meets ps t (d ∷ l) h k z c = run_meets ps t d l d h k z c
