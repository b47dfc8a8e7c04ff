-- Whatever the number of paths, every land is a closed trail, and the turn of a laid dart is laid and leaves the dart's own port (document 01, "Terms", and refusals 12 and 13 of the laid darts).
-- count_found, count_single: a dart of the lands stands in one of them and, where it stands there once, in one only. land_next: what follows a land's dart is the land's. run_last: what follows the last dart of a run.
-- closed_cycled, closed_parted: the first cycle's lands are closed trails, and those after a path. turn_laid, turn_port: the turn of a laid dart, where lands are sound and closed. closed_laying, turn_laid_laying, turn_port_laying, turn_tests_laying: so it is after at most n paths.
-- Assumes nothing.
use mathlib.Core.Path.{◌≡◌, refl, sym, ap, ◌∙◌, subst}
use mathlib.Core.Logic.{◌⊎◌, inl, inr, ⊎_elim}
use mathlib.Core.Bool.{Bool, not}
use mathlib.Core.List.{List, [], ◌∷◌, ◌++◌}
use Prim.Native.Nat.{ℕ, ◌≤◌, ◌<◌, zero, suc}
use native.Mathlib.Nat.{not-suc-le-zero, eq-zero-or-pos}
use native.Mathlib.Omega.{arith}
use lib.Dec.{T, eqb, leb, leb→le, T_not, not_T}
use lib.ListN.{length, get_or}
use Rattle.rules.specs.Lists.{at}
use Rattle.rules.specs.Terms.{leaves, reverse, laid, next}
use Rattle.rules.specs.Refusals.{wild_turn, away_turn}
use Rattle.rules.specs.Laying.{State, back, last, laying}
use Rattle.laws.proofs.Tests.{eq_eqb}
use Rattle.laws.proofs.Counts.{flag, flag_T, T_flag, is_self, is, is_cases, count}
use Rattle.laws.proofs.Lists.{All}
use Rattle.laws.proofs.Runs.{reverse_reverse, Run, Land}
use Rattle.laws.proofs.Links.{laid_lt}
use Rattle.laws.proofs.Trails.{enters_reverse, trail_back}
use Rattle.laws.proofs.Corners.{Closed, closed_of, closed_turn, closed_listed, closed_split, land_meets}
use Rattle.laws.proofs.Sound.{count_all, all_at, count_at, Sound}
use Rattle.laws.proofs.Reaches.{Wide}
use Rattle.laws.proofs.Rounds.{Layable}
use Rattle.laws.proofs.FirstCycle.{kept_laying}
use Rattle.laws.proofs.Steps.{Cycled, Parted, all_parted, steps_laying}

-- ---- what follows a dart

pub count_found : (z : ℕ) (ls : List (List ℕ)) → 1 ≤ count_all z ls → (i : ℕ) × (i < length ls) × (1 ≤ count z (get_or ls i []))
unfolding count_all
count_found z [] h = absurd (not-suc-le-zero h)
count_found z (l ∷ ls) h =
    ⊎_elim (λ e. let r = count_found z ls (omega arith) in (suc r.0, omega (arith, r.1), r.2)) (λ p. (0, omega arith, p)) (eq-zero-or-pos (count z l))

-- where it stands in them once, in one only
pub count_single : (z : ℕ) (ls : List (List ℕ)) → count_all z ls ≤ 1 → (i j : ℕ) → 1 ≤ count z (get_or ls i []) → 1 ≤ count z (get_or ls j []) → i ≡ j
unfolding count_all count
count_single z [] u i j h k = absurd (not-suc-le-zero h)
count_single z (l ∷ ls) u zero zero h k = refl
count_single z (l ∷ ls) u zero (suc j) h k = absurd (not-suc-le-zero {n = 0} (omega (arith, count_at z ls j)))
count_single z (l ∷ ls) u (suc i) zero h k = absurd (not-suc-le-zero {n = 0} (omega (arith, count_at z ls i)))
count_single z (l ∷ ls) u (suc i) (suc j) h k = ap suc (count_single z ls (omega arith) i j h k)

pub run_next : (t : List ℕ) (d : ℕ) (l : List ℕ) (e : ℕ) → Run t d l e → (z : ℕ) → 1 ≤ count z (d ∷ l) → (1 ≤ count (next t z) l) ⊎ (next t z ≡ e)
unfolding count
run_next t d [] e h z c = ⊎_elim (λ q. inr (ap (next t) q ∙ h)) (λ n. absurd (not-suc-le-zero {n = 0} (omega arith))) (is_cases z d)
run_next t d (x ∷ l) e h z c =
    ⊎_elim (λ q. inl (omega (arith, is_self x, ap (λ (w : ℕ). is w x) (ap (next t) q ∙ h.0))))
    (λ n. ⊎_elim (λ k. inl (omega arith)) inr (run_next t x l e h.1 z (omega arith))) (is_cases z d)

pub land_next : (t l : List ℕ) → Land t l → (z : ℕ) → 1 ≤ count z l → 1 ≤ count (next t z) l
unfolding count
land_next t [] h z c = absurd h
land_next t (d ∷ l) h z c =
    ⊎_elim (λ k. omega arith) (λ q. omega (arith, is_self d, ap (λ (w : ℕ). is w d) q)) (run_next t d l d h z c)

pub run_last : (t : List ℕ) (d : ℕ) (l : List ℕ) (e : ℕ) → Run t d l e → next t (last (d ∷ l)) ≡ e
unfolding last
run_last t d [] e h = h
run_last t d (x ∷ l) e h = run_last t x l e h.1

-- ---- closed lands

pub closed_cycled : (ps : List ℕ) (s : State) → Cycled ps s → All (Closed ps) s.lands
closed_cycled ps s C =
    subst (All (Closed ps)) (sym C.lands) (
      closed_listed ps (C.d ∷ C.q) (closed_of ps C.port (C.d ∷ C.q) C.way),
      (closed_listed ps (back (C.d ∷ C.q)) (closed_of ps C.port (back (C.d ∷ C.q)) (trail_back ps C.port (C.d ∷ C.q) C.port C.way)), tt),
    )

-- the land that is split, from x on
pub closed_turned : (ps : List ℕ) (s z : State) (D : Parted ps s z) → All (Closed ps) s.lands → Closed ps ((D.a ∷ D.m) ++ (D.b ∷ D.n))
closed_turned ps s z D C =
    subst (Closed ps) (sym D.turned.1.2)
    (closed_turn ps D.turned.0 D.turned.1.0 (subst (Closed ps) D.turned.1.1 (all_at (Closed ps) s.lands D.land D.below C)))

pub closed_parted : (ps : List ℕ) (s z : State) → Sound s.turns s.lands → Parted ps s z → All (Closed ps) s.lands → All (Closed ps) z.lands
closed_parted ps s z K D C =
    let h = closed_split ps D.a D.m D.b D.n (D.d ∷ D.q) (closed_turned ps s z D C) (rw (D.from_x, D.from_y) D.way) in
    all_parted ps s z K D (Closed ps) h.0 h.1 C

-- ---- the turn of a laid dart

module _ (ps : List ℕ) (s : State) (K : Sound s.turns s.lands) where
  -- the land of a laid dart's reverse
  pub reverse_found : (d : ℕ) → T (laid s.turns d) → (i : ℕ) × (i < length s.lands) × (1 ≤ count (reverse d) (get_or s.lands i []))
  reverse_found d h = count_found (reverse d) s.lands (omega (arith, K.cover (reverse d), ap flag (K.pair d), flag_T (laid s.turns d) h))

  pub turn_laid : (d : ℕ) → T (laid s.turns d) → T (laid s.turns (get_or s.turns d 0))
  unfolding next
  turn_laid d h =
      let f = reverse_found d h in
      let l = get_or s.lands f.0 [] in
      let w = next s.turns (reverse d) in
      let c = land_next s.turns l (all_at (Land s.turns) s.lands f.0 f.1 K.follow) (reverse d) f.2 in
      subst (λ (e : ℕ). T (laid s.turns (get_or s.turns e 0))) (reverse_reverse d)
      (T_flag (laid s.turns w) (omega (arith, c, count_at w s.lands f.0, K.cover w)))

  pub turn_port : All (Closed ps) s.lands → (d : ℕ) → T (laid s.turns d) → leaves ps (get_or s.turns d 0) ≡ leaves ps d
  unfolding next
  turn_port C d h =
      let f = reverse_found d h in
      let l = get_or s.lands f.0 [] in
      subst (λ (e : ℕ). leaves ps (get_or s.turns e 0) ≡ leaves ps d) (reverse_reverse d)
      (land_meets ps s.turns l (all_at (Land s.turns) s.lands f.0 f.1 K.follow) (all_at (Closed ps) s.lands f.0 f.1 C) (reverse d) f.2 ∙ enters_reverse ps d)

-- ---- any number of paths

module _ (np : ℕ) (ps : List ℕ) (on : List Bool) (G : Layable np ps on) (many : Wide ps on) (c : ℕ) (o : T (at on c)) where
  pub closed_laying : (n : ℕ) → All (Closed ps) (laying np ps on n).state.lands
  closed_laying = steps_laying np ps on G many (λ s. All (Closed ps) s.lands) (λ s K C. closed_cycled ps s C) (λ s z K L D C. closed_parted ps s z K.sound D C) c o

  -- The turn of a laid dart is laid.
  pub turn_laid_laying : (n d : ℕ) → T (laid (laying np ps on n).state.turns d) → T (laid (laying np ps on n).state.turns (get_or (laying np ps on n).state.turns d 0))
  turn_laid_laying n = turn_laid ps (laying np ps on n).state (kept_laying np ps on G many c o n).sound

  -- It leaves the same port.
  pub turn_port_laying : (n d : ℕ) → T (laid (laying np ps on n).state.turns d) → leaves ps (get_or (laying np ps on n).state.turns d 0) ≡ leaves ps d
  turn_port_laying n = turn_port ps (laying np ps on n).state (kept_laying np ps on G many c o n).sound (closed_laying n)

  -- Refusals 12 and 13 are given for no laid dart.
  pub turn_tests_laying : (n d : ℕ) → T (laid (laying np ps on n).state.turns d)
      → T (not (wild_turn ps (laying np ps on n).state.turns d)) × T (not (away_turn ps (laying np ps on n).state.turns d))
  unfolding wild_turn away_turn
  turn_tests_laying n d h =
      let t = (laying np ps on n).state.turns in
      let e = get_or t d 0 in (
        not_T (leb (length ps) e) (λ k. omega (arith, leb→le (length ps) e k, laid_lt t e (turn_laid_laying n d h), (kept_laying np ps on G many c o n).long)),
        not_T (not (eqb (leaves ps e) (leaves ps d))) (λ k. T_not (eqb (leaves ps e) (leaves ps d)) k (eq_eqb (leaves ps e) (leaves ps d) (turn_port_laying n d h))),
      )
