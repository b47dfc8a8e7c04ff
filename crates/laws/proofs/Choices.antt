-- What a round chooses among (document 01, "Laying", each round): the fragments, their admissible lands, and the judgement.
--   Proper np ps on t lp f      f is the fragment of an unlaid channel in play
--   Admitted ps cs i ls ms      the first of ms is the number of a land of ls that visits every contact of cs, the first land having the number i
--   Open c                      the choice c has an admissible land
--   Ready P v                   P holds of the choice of the verdict v, where it has one
--   laid_now np ps s             the laid ports of the state s
--   Sensible np ps on s c       c is the choice of the fragment of an unlaid channel in play
-- fragments_proper, fragments_cover: the fragments are those of unlaid channels in play, and each such channel is a fragment's. choices_some: where not all channels are laid, there is a choice. admitted: what is admissible.
-- chosen_in: the choice made is one of the choices. judge_ready: a verdict to go on has a choice with an admissible land. rounds_keep: what every path keeps, any number of rounds keep.
-- Assumes nothing.
use mathlib.Core.Path.{◌≡◌, refl, subst, ap}
use mathlib.Core.Logic.{⊎_elim}
use mathlib.Core.Bool.{Bool, false, cond, ◌||◌, not}
use mathlib.Core.List.{List, [], ◌∷◌, ◌++◌}
use Prim.Native.Nat.{ℕ, ◌*◌, ◌≤◌, ◌+◌, ◌<◌, suc, zero}
use native.Mathlib.Nat.{not-suc-le-zero, eq-zero-or-pos}
use native.Mathlib.Omega.{arith}
use lib.Dec.{T, T_not, eqb, eqb_refl}
use lib.ListN.{length, get_or, length-append, replicate, length-map}
use Rattle.rules.specs.Lists.{from, any, all, keep, at}
use Rattle.rules.specs.Terms.{laid, visits}
use Rattle.rules.specs.Laying.{State, Fragment, Choice, Verdict, flat, stuck, ready, FLAT, STUCK, PARTIAL, Outcome, without, single, lowest, chosen, stuck_or, laid_ports, admissible, within, fragment_at, settled, fragments, choice_of, choices, lay, all_laid, judge, rounds}
use Rattle.laws.proofs.Tests.{cond_cases, T_isnt, or_T, T_or₁, not_or, not_not}
use Rattle.laws.proofs.Counts.{is_cases, count}
use Rattle.laws.proofs.Lists.{not_all, All, all_map, all_snoc, all_weaken, all_append, keep_all, keep_none, any_append₁, any_append₂, any_some}
use Rattle.laws.proofs.Runs.{channel_of}
use Rattle.laws.proofs.Fragments.{of_own_lem}

-- ---- the fragments

abbrev pub Proper : ℕ → List ℕ → List Bool → List ℕ → List Bool → Fragment → Type 0
Proper np ps on t lp f = (k : ℕ) × (f ≡ fragment_at np ps on lp k) × (laid t (2 * k) ≡ false) × T (at on k)

module _ (np : ℕ) (ps : List ℕ) (on : List Bool) (t : List ℕ) (lp : List Bool) where
  pub fragments_proper : (ks : List ℕ) (fs : List Fragment) → All (Proper np ps on t lp) fs → All (Proper np ps on t lp) (fragments np ps on t lp ks fs)
  unfolding fragments settled
  fragments_proper [] fs a = a
  fragments_proper (k ∷ ks) fs a =
      fragments_proper ks (cond (settled np ps on t fs k) fs (fs ++ (fragment_at np ps on lp k ∷ [])))
      (cond_cases (All (Proper np ps on t lp)) (settled np ps on t fs k) (λ s. a)
      (λ s.
      let o = not_or (laid t (2 * k) || not (at on k)) (any (λ f. within np ps on f (2 * k)) fs) s in
      let u = not_or (laid t (2 * k)) (not (at on k)) o.0 in
      all_snoc (Proper np ps on t lp) fs (fragment_at np ps on lp k) a (k, refl, T_isnt (laid t (2 * k)) (T_not (laid t (2 * k)) u.0), not_not (at on k) u.1)))

  pub fragments_keeps : (g : Fragment → Bool) (ks : List ℕ) (fs : List Fragment) → T (any g fs) → T (any g (fragments np ps on t lp ks fs))
  unfolding fragments
  fragments_keeps g [] fs h = h
  fragments_keeps g (k ∷ ks) fs h =
      fragments_keeps g ks (cond (settled np ps on t fs k) fs (fs ++ (fragment_at np ps on lp k ∷ [])))
      (cond_cases (λ (m : List Fragment). T (any g m)) (settled np ps on t fs k) (λ s. h) (λ s. any_append₁ g fs (fragment_at np ps on lp k ∷ []) h))

  -- an unlaid channel in play is a fragment's
  pub fragments_cover : (ks : List ℕ) (fs : List Fragment) (k : ℕ) → 1 ≤ count k ks → T (at on k) → T (not (laid t (2 * k)))
      → T (any (λ f. within np ps on f (2 * k)) (fragments np ps on t lp ks fs))
  unfolding fragments settled any count
  fragments_cover [] fs k h o u = absurd (not-suc-le-zero h)
  fragments_cover (j ∷ ks) fs k h o u =
      ⊎_elim
      (λ e. fragments_keeps (λ f. within np ps on f (2 * k)) ks (cond (settled np ps on t fs j) fs (fs ++ (fragment_at np ps on lp j ∷ [])))
      (subst (λ (i : ℕ). T (any (λ f. within np ps on f (2 * k)) (cond (settled np ps on t fs i) fs (fs ++ (fragment_at np ps on lp i ∷ []))))) e here))
      (λ n. fragments_cover ks (cond (settled np ps on t fs j) fs (fs ++ (fragment_at np ps on lp j ∷ []))) k (omega arith) o u)
      (is_cases k j)
    where
      here : T (any (λ f. within np ps on f (2 * k)) (cond (settled np ps on t fs k) fs (fs ++ (fragment_at np ps on lp k ∷ []))))
      here =
          cond_cases (λ (m : List Fragment). T (any (λ f. within np ps on f (2 * k)) m)) (settled np ps on t fs k)
          (λ s. ⊎_elim
          (λ a. absurd (⊎_elim (T_not (laid t (2 * k)) u) (λ n. T_not (at on k) n o) (or_T (laid t (2 * k)) (not (at on k)) a)))
          (λ a. a) (or_T (laid t (2 * k) || not (at on k)) (any (λ f. within np ps on f (2 * k)) fs) s))
          (λ s. any_append₂ (λ f. within np ps on f (2 * k)) fs (fragment_at np ps on lp k ∷ [])
          (T_or₁ (within np ps on (fragment_at np ps on lp k) (2 * k)) false (of_own_lem np ps on lp k (2 * k) o (channel_of k))))

-- ---- admissible lands

abbrev pub Admitted : List ℕ → List ℕ → ℕ → List (List ℕ) → List ℕ → Type 0
Admitted ps cs i ls [] = Unit {0}
Admitted ps cs i ls (m ∷ ms) = (j : ℕ) × (m ≡ i + j) × (j < length ls) × T (all (visits ps (get_or ls j [])) cs)

pub admitted : (ps cs : List ℕ) (i : ℕ) (ls : List (List ℕ)) → Admitted ps cs i ls (admissible ps cs i ls)
unfolding admissible
admitted ps cs i [] = tt
admitted ps cs i (l ∷ ls) =
    cond_cases (Admitted ps cs i (l ∷ ls)) (all (visits ps l) cs)
    (λ t. (0, omega arith, omega arith, t))
    (λ t. later (admissible ps cs (suc i) ls) (admitted ps cs (suc i) ls))
  where
    later : (ms : List ℕ) → Admitted ps cs (suc i) ls ms → Admitted ps cs i (l ∷ ls) ms
    later [] a = tt
    later (m ∷ ms) a = (suc a.0, omega (arith, a.1), omega (arith, a.2), a.3)

-- the lowest-numbered
pub first_fit_lem : (ps cs : List ℕ) (ls : List (List ℕ)) (ms : List ℕ) → Admitted ps cs 0 ls ms → 1 ≤ length ms → (get_or ms 0 0 < length ls) × T (all (visits ps (get_or ls (get_or ms 0 0) [])) cs)
first_fit_lem ps cs ls [] a h = absurd (not-suc-le-zero h)
first_fit_lem ps cs ls (m ∷ ms) a h =
    let e : m ≡ a.0 = omega (arith, a.1) in
    (omega (arith, a.2), rw e a.3)

-- ---- the choice that is made

-- what holds of every choice holds of the lowest-named, and of the one chosen
pub lowest_in : (P : Choice → Type 0) (cs : List Choice) → All P cs → 1 ≤ length cs → P (lowest cs)
unfolding lowest
lowest_in P [] a h = absurd (not-suc-le-zero h)
lowest_in P (c ∷ cs) a h = a.0

pub chosen_in : (P : Choice → Type 0) (cs : List Choice) → All P cs → 1 ≤ length cs → P (chosen cs)
unfolding chosen
chosen_in P cs a h =
    lowest_in P (keep single cs ++ cs) (all_append P (keep single cs) cs (keep_all P single cs a) a) (omega (arith, length-append (keep single cs) cs))

-- ---- the judgement

abbrev pub Open : Choice → Type 0
Open c = 1 ≤ length c.fits

abbrev pub Ready : (Choice → Type 0) → Verdict → Type 0
Ready P flat = Unit {0}
Ready P (stuck k) = Unit {0}
Ready P (ready c) = P c

-- stuck where some choice has no admissible land; ready, then, only where each has one
pub stuck_ready : (P : Choice → Type 0) (cs : List Choice) (c : Choice) → (All Open cs → P c) → Ready P (stuck_or (keep without cs) (ready c))
unfolding stuck_or without
stuck_ready P cs c k = go (keep without cs) refl
  where
    open_of : (e : Choice) → T (not (without e)) → Open e
    open_of e t = ⊎_elim (λ z. absurd (T_not (eqb (length e.fits) 0) t (rw z (eqb_refl 0)))) (λ p. p) (eq-zero-or-pos (length e.fits))

    go : (m : List Choice) → keep without cs ≡ m → Ready P (stuck_or m (ready c))
    go [] e = k (all_weaken (λ x. T (not (without x))) Open open_of cs (keep_none without cs (ap length e)))
    go (x ∷ m) e = tt

abbrev pub laid_now : ℕ → List ℕ → State → List Bool
laid_now np ps s = laid_ports ps s.turns (from 0 (length ps)) (replicate np false)

module _ (np : ℕ) (ps : List ℕ) (on : List Bool) (s : State) where
  abbrev pub Sensible : Choice → Type 0
  Sensible c = (k : ℕ) × (c ≡ choice_of np ps on (laid_now np ps s) s.lands (fragment_at np ps on (laid_now np ps s) k)) × (laid s.turns (2 * k) ≡ false) × T (at on k)

  pub choices_sensible : All Sensible (choices np ps on s)
  unfolding choices
  choices_sensible =
      all_map (Proper np ps on s.turns (laid_now np ps s)) Sensible (choice_of np ps on (laid_now np ps s) s.lands)
      (λ f h. (h.0, ap (choice_of np ps on (laid_now np ps s) s.lands) h.1, h.2, h.3))
      (fragments np ps on s.turns (laid_now np ps s) (from 0 (length on)) []) (fragments_proper np ps on s.turns (laid_now np ps s) (from 0 (length on)) [] tt)

  -- where not all channels in play are laid, there is a choice
  pub choices_some : T (not (all_laid np ps on s.turns)) → 1 ≤ length (choices np ps on s)
  unfolding choices all_laid
  choices_some h =
      let r = not_all (λ k. laid s.turns (2 * k) || not (at on k)) (from 0 (length on)) h in
      let u = not_or (laid s.turns (2 * r.0)) (not (at on r.0)) r.2 in
      rw length-map (any_some _ _ (fragments_cover np ps on s.turns (laid_now np ps s) (from 0 (length on)) [] r.0 r.1 (not_not (at on r.0) u.1) u.0))

  -- a verdict to go on has one of the choices, and a land for it
  pub judge_ready : (P : Choice → Type 0) → All P (choices np ps on s) → Ready (λ c. P c × Open c) (judge np ps on s)
  unfolding judge
  judge_ready P a =
      cond_cases (Ready (λ c. P c × Open c)) (all_laid np ps on s.turns) (λ t. tt)
      (λ t. stuck_ready (λ c. P c × Open c) (choices np ps on s) (chosen (choices np ps on s))
      (λ o. (chosen_in P (choices np ps on s) a (choices_some t), chosen_in Open (choices np ps on s) o (choices_some t))))

-- ---- the rounds

-- What every path keeps, that is laid for a sensible choice with an admissible land, any number of rounds keep.
pub rounds_keep : (np : ℕ) (ps : List ℕ) (on : List Bool) (P : State → Type 0)
    → ((s : State) → P s → (c : Choice) → Sensible np ps on s c → Open c → P (lay np ps on s c)) → (n : ℕ) (s : State) → P s → P (rounds np ps on n s).state
unfolding rounds
rounds_keep np ps on P step zero s p = go (judge np ps on s)
  where
    go : (v : Verdict) → P (elim v as (λ w. Outcome) [ flat ↦ record { word = FLAT; name = 0; state = s } | stuck k ↦ record { word = STUCK; name = k; state = s } | ready c ↦ record { word = PARTIAL; name = 0; state = s } ]).state
    go flat = p
    go (stuck k) = p
    go (ready c) = p
rounds_keep np ps on P step (suc n) s p =
    go (judge np ps on s) (judge_ready np ps on s (Sensible np ps on s) (choices_sensible np ps on s)) (λ c h. rounds_keep np ps on P step n (lay np ps on s c) (step s p c h.0 h.1))
  where
    go : (v : Verdict) → Ready (λ c. Sensible np ps on s c × Open c) v → ((c : Choice) → Sensible np ps on s c × Open c → P (rounds np ps on n (lay np ps on s c)).state)
        → P (elim v as (λ w. Outcome) [ flat ↦ record { word = FLAT; name = 0; state = s } | stuck k ↦ record { word = STUCK; name = k; state = s } | ready c ↦ rounds np ps on n (lay np ps on s c) ]).state
    go flat h k = p
    go (stuck m) h k = p
    go (ready c) h k = k c h
