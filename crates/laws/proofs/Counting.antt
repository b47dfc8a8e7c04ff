-- Ports, channels, lands and paths are counted (document 01, "Laying" and "How tight the statements are"): the number of paths is laid channels minus laid ports, and the lands never outnumber those of a plate that is FLAT.
--   laid_ports_of n ends t     of n ports, those that a laid dart leaves
--   laid_channels e t         of e channels, the laid ones
--   Joined np ps e L C       L are some of np ports and C some of e channels, none twice, and both ends of every channel of C stand in L
--   is_laid p                 port p is left by a laid dart
--   IsWord w v               v is the word w
--   Flat P v                 P holds where the verdict v is flat
-- length_full: a list that has all of 0, 1, .., n − 1 is that long. count_rows_lem, rows_..: what is kept of 0, 1, .., n − 1. length_laid, darts_counted: the darts of all lands are two for each laid channel.
-- ports_counted: laid ports + lands = laid channels + 2. paths_counted: paths + laid ports = laid channels. tree, missing_ports: in one piece, as long as a port is missing a channel leads to it from those that are there, so that missing ports are no more than missing channels.
-- rounds_cases: a thing of the rounds by what each round says. rounds_flat: FLAT says that all channels in play are laid. rounds_partial: PARTIAL says that n paths are laid.
-- ports-, paths-, darts_laid_out, and paths-, lands-, darts_most: so it is with every plate that is read, laid with at most n paths. flat_laid, paths_flat, lands_flat: and so where the word is FLAT.
-- Assumes nothing.
use mathlib.Core.Path.{◌≡◌, refl, sym, ◌∙◌, ap, subst}
use mathlib.Core.Logic.{◌≢◌, ◌⊎◌, inl, inr, ⊎_elim}
use mathlib.Core.Bool.{Bool, true, false, not, ◌&&◌, ◌||◌}
use mathlib.Core.List.{List, [], ◌∷◌}
use Prim.Native.Nat.{ℕ, zero, suc, ◌+◌, ◌*◌, ◌/◌, ◌≤◌, ◌<◌}
use native.Mathlib.Nat.{not-suc-le-zero, eq-zero-or-pos}
use native.Mathlib.Omega.{arith}
use lib.Dec.{T, eqb, eqb→eq}
use lib.ListN.{length, get_or, length-append, length-replicate, get_or-replicate}
use Rattle.rules.specs.Lists.{from, any, keep, at, concat}
use Rattle.rules.specs.Terms.{leaves, enters, reverse, laid}
use Rattle.rules.specs.Ways.{in_play}
use Rattle.rules.specs.Refusals.{given, Plate, read_plate}
use Rattle.rules.specs.Laying.{State, Word, FLAT, STUCK, PARTIAL, Outcome, Verdict, flat, stuck, ready, Choice, lay, all_laid, stuck_or, judge, choices, without, chosen, rounds, laying, whole_plate, laid_out, lands_of_flat}
use Rattle.laws.proofs.Tests.{cond_cases, eq_eqb, and_T, T_and, or_T}
use Rattle.laws.proofs.Counts.{length_le, length_same, flag, flag_T, T_flag, is, is_self, is_cases, is_apart, is_le, count, count_append, zero_of, sum, length_sum, pigeon}
use Rattle.laws.proofs.Lists.{any_T, T_any, all_T, keep_le, keep_T, T_keep, count_from, from_lt, from_once, length_from}
use Rattle.laws.proofs.Runs.{Land, channel_darts, same_channel}
use Rattle.laws.proofs.Links.{laid_lt}
use Rattle.laws.proofs.Trails.{leaves_reverse}
use Rattle.laws.proofs.Reaches.{play_dart, play_reverse, Way, Linked, linked_join, linked_back}
use Rattle.laws.proofs.Sound.{count_all, all_at, Sound}
use Rattle.laws.proofs.Euler.{length_all}
use Rattle.laws.proofs.Rounds.{Layable, Kept, land_head, kept_dart, kept_land}
use Rattle.laws.proofs.Reading.{accepted, layable, kept_laid_out}

-- ---- what is counted

-- the ports that a laid dart leaves
unfoldable pub laid_ports_of : ℕ → List ℕ → List ℕ → List ℕ
laid_ports_of n ends t = keep (λ p. any (λ d. laid t d && eqb (leaves ends d) p) (from 0 (length ends))) (from 0 n)

-- the channels whose darts are laid
unfoldable pub laid_channels : ℕ → List ℕ → List ℕ
laid_channels e t = keep (λ k. laid t (2 * k)) (from 0 e)

-- ---- rows

-- what is kept of 0, 1, .., n − 1
pub count_rows_lem : (f : ℕ → Bool) (n z : ℕ) → z < n → count z (keep f (from 0 n)) ≡ flag (f z)
count_rows_lem f n z l = go (f z) refl
  where
    go : (b : Bool) → f z ≡ b → count z (keep f (from 0 n)) ≡ flag b
    go true e = omega (arith, T_keep f (from 0 n) z (count_from z 0 n (omega arith) (omega arith)) (rw e tt), keep_le f (from 0 n) z, from_once z 0 n)
    go false e = zero_of (count z (keep f (from 0 n))) (λ k. subst T e (keep_T f (from 0 n) z k))

pub rows_lt : (f : ℕ → Bool) (n z : ℕ) → 1 ≤ count z (keep f (from 0 n)) → z < n
rows_lt f n z h = omega (arith, from_lt z 0 n (omega (arith, keep_le f (from 0 n) z)))

pub rows_most : (f : ℕ → Bool) (n : ℕ) → length (keep f (from 0 n)) ≤ n
rows_most f n = pigeon n (keep f (from 0 n)) (rows_lt f n) (λ z. omega (arith, keep_le f (from 0 n) z, from_once z 0 n))

-- a list that holds each of 0, .., n − 1 is at least n long
pub length_full : (n : ℕ) (l : List ℕ) → ((z : ℕ) → 1 ≤ count z l → z < n) → ((z : ℕ) → z < n → 1 ≤ count z l) → n ≤ length l
length_full n l b h =
    subst (λ (k : ℕ). k ≤ length l) (length_from 0 n)
    (length_le n (from 0 n) l b (λ z. ⊎_elim (λ e. omega arith) (λ k. omega (arith, from_once z 0 n, h z (omega (arith, from_lt z 0 n k)))) (eq-zero-or-pos (count z (from 0 n)))))

-- where each passes, all are kept
pub rows_all : (f : ℕ → Bool) (n : ℕ) → ((z : ℕ) → z < n → T (f z)) → length (keep f (from 0 n)) ≡ n
rows_all f n h =
    omega (arith, rows_most f n, length_full n (keep f (from 0 n)) (rows_lt f n) (λ z l. omega (arith, count_rows_lem f n z l, flag_T (f z) (h z l))))

-- ---- the darts of all lands

pub count_concat : (z : ℕ) (ls : List (List ℕ)) → count z (concat ls) ≡ count_all z ls
unfolding concat count_all count
count_concat z [] = refl
count_concat z (l ∷ ls) = omega (arith, count_append z l (concat ls), count_concat z ls)

pub length_concat : (ls : List (List ℕ)) → length (concat ls) ≡ length_all ls
unfolding concat length_all
length_concat [] = refl
length_concat (l ∷ ls) = omega (arith, length-append l (concat ls), length_concat ls)

-- numbers that stand in pairs, 2k and 2k + 1, as often as k in m
sum_pairs : (l m : List ℕ) (n : ℕ) → ((k : ℕ) → k < n → (count (2 * k) l ≡ count k m) × (count (suc (2 * k)) l ≡ count k m)) → sum (2 * n) l ≡ 2 * sum n m
unfolding sum
sum_pairs l m zero h = refl
sum_pairs l m (suc n) h =
    let e : 2 * suc n ≡ suc (suc (2 * n)) = omega arith in
    rw e (omega (arith, sum_pairs l m n (λ k b. h k (omega arith)), (h n (omega arith)).0, (h n (omega arith)).1))

pub length_laid : (t : List ℕ) (ls : List (List ℕ)) (e : ℕ) → length t ≡ 2 * e → Sound t ls → length (concat ls) ≡ 2 * length (laid_channels e t)
unfolding laid_channels reverse
length_laid t ls e n S =
    let each : (z : ℕ) → count z (concat ls) ≡ flag (laid t z) = (λ z. count_concat z ls ∙ S.cover z) in
    length_sum (2 * e) (concat ls) (λ z k. omega (arith, laid_lt t z (T_flag (laid t z) (omega (arith, each z)))))
    ∙ sum_pairs (concat ls) (keep (λ k. laid t (2 * k)) (from 0 e)) e
    (λ k b. let c = count_rows_lem (λ k. laid t (2 * k)) e k b in
    (each (2 * k) ∙ sym c, each (suc (2 * k)) ∙ ap (λ (z : ℕ). flag (laid t z)) (omega arith) ∙ ap flag (S.pair (2 * k)) ∙ sym c))
    ∙ omega (arith, length_sum e (keep (λ k. laid t (2 * k)) (from 0 e)) (rows_lt (λ k. laid t (2 * k)) e))

-- ---- laid ports, laid channels, lands and paths

module _ (np : ℕ) (ps : List ℕ) (on : List Bool) (G : Layable np ps on) (s : State) (K : Kept ps on s) where
  -- port p is left by a laid dart
  is_laid : ℕ → Bool
  is_laid p = any (λ d. laid s.turns d && eqb (leaves ps d) p) (from 0 (length ps))

  laid_is : (d : ℕ) → T (laid s.turns d) → T (is_laid (leaves ps d))
  unfolding is_laid
  laid_is d h =
      T_any (λ c. laid s.turns c && eqb (leaves ps c) (leaves ps d)) (from 0 (length ps)) d (count_from d 0 (length ps) (omega arith) (omega (arith, kept_dart np ps on G s K d h)))
      (T_and (laid s.turns d) (eqb (leaves ps d) (leaves ps d)) h (eq_eqb (leaves ps d) (leaves ps d) refl))

  is_laid_lem : (p : ℕ) → T (is_laid p) → (d : ℕ) × T (laid s.turns d) × (leaves ps d ≡ p)
  unfolding is_laid
  is_laid_lem p h =
      let r = any_T (λ c. laid s.turns c && eqb (leaves ps c) p) (from 0 (length ps)) h in
      let u = and_T (laid s.turns r.0) (eqb (leaves ps r.0) p) r.2 in
      (r.0, u.0, eqb→eq (leaves ps r.0) p u.1)

  -- the laid ports that the invariant lists are these
  pub length_ports : length K.ports.0 ≡ length (laid_ports_of np ps s.turns)
  unfolding laid_ports_of is_laid
  length_ports =
      length_same np K.ports.0 (keep is_laid (from 0 np)) (rows_lt is_laid np)
      (λ z. ⊎_elim
      (λ e. e ∙ sym (zero_of (count z (keep is_laid (from 0 np))) (λ k. let d = is_laid_lem z (keep_T is_laid (from 0 np) z k) in
      not-suc-le-zero {n = 0} (omega (arith, K.ports.1.some d.0 d.1, ap (λ (w : ℕ). count w K.ports.0) d.2)))))
      (λ k. let d = K.ports.1.only z k in
      let b : z < np = subst (λ (w : ℕ). w < np) d.2 (G.inn d.0 (kept_dart np ps on G s K d.0 d.1)) in
      sym (ap (λ (w : ℕ). count w K.ports.0) d.2) ∙ K.ports.1.some d.0 d.1
      ∙ sym (count_rows_lem is_laid np z b ∙ flag_T (is_laid z) (subst (λ (w : ℕ). T (is_laid w)) d.2 (laid_is d.0 d.1))))
      (eq-zero-or-pos (count z K.ports.0)))

  -- the darts of all lands: two for each laid channel
  pub darts_counted : length (concat s.lands) ≡ 2 * length (laid_channels (length on) s.turns)
  darts_counted = length_laid s.turns s.lands (length on) (K.long ∙ G.size2) K.sound

  -- V − E + lands = 2, of what is laid.
  pub ports_counted : length (laid_ports_of np ps s.turns) + length s.lands ≡ length (laid_channels (length on) s.turns) + 2
  ports_counted = omega (arith, length_ports, K.ports.2, length_concat s.lands, darts_counted)

  -- The number of paths is laid channels minus laid ports.
  pub paths_counted : length s.paths + length (laid_ports_of np ps s.turns) ≡ length (laid_channels (length on) s.turns)
  paths_counted = omega (arith, ports_counted, K.number)

-- ---- a plate in one piece

-- some of np ports, L, and some of e channels, C, none of them twice; both ends of every channel of C stand in L
pub record Joined (np : ℕ) (ps : List ℕ) (e : ℕ) (L C : List ℕ) : Type 0 where
  pub in_l : (z : ℕ) → 1 ≤ count z L → z < np
  pub one_l : (z : ℕ) → count z L ≤ 1
  pub in_c : (z : ℕ) → 1 ≤ count z C → z < e
  pub one_c : (z : ℕ) → count z C ≤ 1
  pub ends : (d : ℕ) → 1 ≤ count (d / 2) C → 1 ≤ count (leaves ps d) L

-- the lowest of 0, .., n − 1 that L lacks, if it lacks one
lacks : (L : List ℕ) (n : ℕ) → ((q : ℕ) × (q < n) × (count q L ≡ 0)) ⊎ ((q : ℕ) → q < n → 1 ≤ count q L)
lacks L zero = inr (λ q l. absurd (not-suc-le-zero l))
lacks L (suc n) =
    ⊎_elim (λ r. inl (r.0, omega (arith, r.1), r.2))
    (λ h. ⊎_elim (λ e. inl (n, omega arith, e))
    (λ k. inr (λ q l. ⊎_elim (λ e. subst (λ (z : ℕ). 1 ≤ count z L) (sym e) k) (λ m. let ne : q ≢ n = is_apart q n m in h q (omega arith)) (is_cases q n)))
    (eq-zero-or-pos (count n L)))
    (lacks L n)

module _ (np : ℕ) (ps : List ℕ) (on : List Bool) (G : Layable np ps on)
    (linked : (q r : ℕ) → q < np → r < np → Linked ps (in_play on) (λ p. true) q r) where
  -- a way from a port that L lacks to one that it has: some dart of it comes from outside into L
  crossing : (L : List ℕ) (q : ℕ) (w : List ℕ) (r : ℕ) → Way ps (in_play on) (λ p. true) q w r → count q L ≡ 0 → 1 ≤ count r L
      → (d : ℕ) × T (in_play on d) × (count (leaves ps d) L ≡ 0) × (1 ≤ count (enters ps d) L)
  crossing L q [] r h a b = absurd (not-suc-le-zero {n = 0} (omega (arith, ap (λ (z : ℕ). count z L) h)))
  crossing L q (d ∷ w) r h a b =
      ⊎_elim (λ e. crossing L (enters ps d) w r h.3 e b) (λ k. (d, h.0, ap (λ (z : ℕ). count z L) h.1 ∙ a, k)) (eq-zero-or-pos (count (enters ps d) L))

  -- the port that it comes from and its channel are added
  joined_more : (L C : List ℕ) → Joined np ps (length on) L C → (d : ℕ) → T (in_play on d) → count (leaves ps d) L ≡ 0 → 1 ≤ count (enters ps d) L
      → Joined np ps (length on) (leaves ps d ∷ L) (d / 2 ∷ C)
  unfolding count
  joined_more L C J d o a b = record {
    in_l = λ z h. ⊎_elim (λ e. subst (λ (w : ℕ). w < np) (sym e) (G.inn d dart)) (λ n. J.in_l z (omega arith)) (is_cases z (leaves ps d));
    one_l = λ z. ⊎_elim (λ e. omega (arith, ap (λ (w : ℕ). count w L) e, is_le z (leaves ps d))) (λ n. omega (arith, J.one_l z)) (is_cases z (leaves ps d));
    in_c = λ z h. ⊎_elim (λ e. omega (arith, dart, G.size2)) (λ n. J.in_c z (omega arith)) (is_cases z (d / 2));
    one_c = λ z. ⊎_elim (λ e. omega (arith, ap (λ (w : ℕ). count w C) e, is_le z (d / 2), new)) (λ n. omega (arith, J.one_c z)) (is_cases z (d / 2));
    ends = λ c h. ⊎_elim
        (λ e. ⊎_elim (λ q. omega (arith, ap (λ (w : ℕ). is (leaves ps w) (leaves ps d)) q, is_self (leaves ps d))) (λ q. omega (arith, ap (λ (w : ℕ). count w L) (ap (leaves ps) q ∙ leaves_reverse ps d))) (same_channel c d e))
        (λ n. omega (arith, J.ends c (omega arith))) (is_cases (c / 2) (d / 2));
  }
    where
      dart : d < length ps
      dart = play_dart ps on G.size2 d o

      new : count (d / 2) C ≡ 0
      new = zero_of (count (d / 2) C) (λ k. omega (arith, J.ends d k))

  -- Ports L and channels C between them: the ports that are missing are no more than the channels that are missing.
  pub tree : (n : ℕ) (L C : List ℕ) → np ≤ n + length L → Joined np ps (length on) L C → (r : ℕ) → 1 ≤ count r L → np + length C ≤ length L + length on
  unfolding count
  tree zero L C b J r h = omega (arith, pigeon (length on) C J.in_c J.one_c)
  tree (suc n) L C b J r h =
      ⊎_elim
      (λ q.
      let w = linked q.0 r q.1 (J.in_l r h) in
      let c = crossing L q.0 w.0 r w.1 q.2 h in
      omega (arith, tree n (leaves ps c.0 ∷ L) (c.0 / 2 ∷ C) (omega arith) (joined_more L C J c.0 c.1 c.2 c.3) r (omega arith)))
      (λ k. omega (arith, pigeon (length on) C J.in_c J.one_c, length_full np L J.in_l k))
      (lacks L np)

  -- Missing ports are no more than missing channels, after any number of paths.
  pub missing_ports : (s : State) → Kept ps on s → np + length (laid_channels (length on) s.turns) ≤ length (laid_ports_of np ps s.turns) + length on
  unfolding laid_channels laid_ports_of is_laid
  missing_ports s K =
      let t = s.turns in
      let port = is_laid np ps on G s K in
      let chan : ℕ → Bool = (λ k. laid t (2 * k)) in
      let here : (d : ℕ) → T (laid t d) → 1 ≤ count (leaves ps d) (keep port (from 0 np)) =
      (λ d h. omega (arith, count_rows_lem port np (leaves ps d) (G.inn d (kept_dart np ps on G s K d h)), flag_T (port (leaves ps d)) (laid_is np ps on G s K d h))) in
      let both : (d : ℕ) → T (laid t (2 * (d / 2))) → T (laid t d) =
      (λ d h. ⊎_elim (λ e. subst (λ (z : ℕ). T (laid t z)) (sym e) h) (λ e. subst (λ (z : ℕ). T (laid t z)) (sym e) (subst (λ (b : Bool). T b) (sym (K.sound.pair (2 * (d / 2)))) h)) (channel_darts d (d / 2) refl)) in
      let c = land_head t (get_or s.lands 0 []) (all_at (Land t) s.lands 0 K.some K.sound.follow) in
      tree np (keep port (from 0 np)) (keep chan (from 0 (length on))) (omega arith) (record {
        in_l = rows_lt port np;
        one_l = λ z. omega (arith, keep_le port (from 0 np) z, from_once z 0 np);
        in_c = rows_lt chan (length on);
        one_c = λ z. omega (arith, keep_le chan (from 0 (length on)) z, from_once z 0 (length on));
        ends = λ d h. here d (both d (keep_T chan (from 0 (length on)) (d / 2) h));
      }) (leaves ps c.0) (here c.0 (kept_land np ps on G s K 0 c.0 c.1))

  -- where all channels are laid, so are all ports
  pub all_ports : 2 ≤ np → (s : State) → Kept ps on s → ((d : ℕ) → d < length ps → T (laid s.turns d)) → length (laid_ports_of np ps s.turns) ≡ np
  unfolding laid_ports_of is_laid
  all_ports two s K h = rows_all (is_laid np ps on G s K) np (λ p b. touched p (other p) (linked p (other p).0 b (other p).1))
    where
      other : (p : ℕ) → (q : ℕ) × (q < np) × (p ≢ q)
      other zero = (1, omega arith, (λ e. not-suc-le-zero {n = 0} (omega arith)))
      other (suc p) = (0, omega arith, (λ e. not-suc-le-zero {n = 0} (omega arith)))

      touched : (p : ℕ) (o : (q : ℕ) × (q < np) × (p ≢ q)) → Linked ps (in_play on) (λ r. true) p o.0 → T (is_laid np ps on G s K p)
      touched p o ([], e) = absurd (o.2 e)
      touched p o (d ∷ w, e) = subst (λ (z : ℕ). T (is_laid np ps on G s K z)) e.1 (laid_is np ps on G s K d (h d (play_dart ps on G.size2 d e.0)))

-- ---- what the word says

abbrev IsWord : Word → Word → Type 0
IsWord FLAT FLAT = Unit {0}
IsWord FLAT STUCK = ⊥
IsWord FLAT PARTIAL = ⊥
IsWord STUCK FLAT = ⊥
IsWord STUCK STUCK = Unit {0}
IsWord STUCK PARTIAL = ⊥
IsWord PARTIAL FLAT = ⊥
IsWord PARTIAL STUCK = ⊥
IsWord PARTIAL PARTIAL = Unit {0}

-- the words are three
pub stuck_flat : STUCK ≡ FLAT → ⊥
stuck_flat e = subst (IsWord STUCK) e tt

pub partial_flat : PARTIAL ≡ FLAT → ⊥
partial_flat e = subst (IsWord PARTIAL) e tt

pub stuck_partial : STUCK ≡ PARTIAL → ⊥
stuck_partial e = subst (IsWord STUCK) e tt

-- a flat verdict says P
abbrev Flat : Type 0 → Verdict → Type 0
Flat P flat = P
Flat P (stuck k) = Unit {0}
Flat P (ready c) = Unit {0}

module _ (np : ℕ) (ps : List ℕ) (on : List Bool) where
  judge_flat : (s : State) → Flat (T (all_laid np ps on s.turns)) (judge np ps on s)
  unfolding judge stuck_or
  judge_flat s =
      cond_cases (Flat (T (all_laid np ps on s.turns))) (all_laid np ps on s.turns) (λ t. t) (λ t. go (keep without (choices np ps on s)) (chosen (choices np ps on s)))
    where
      go : (m : List Choice) (c : Choice) → Flat (T (all_laid np ps on s.turns)) (stuck_or m (ready c))
      go [] c = tt
      go (x ∷ m) c = tt

  -- What holds of an outcome where a round says flat, where it says stuck, and where no path is left to lay, and what a path laid before keeps, holds of the rounds.
  pub rounds_cases : (P : ℕ → State → Outcome → Type 0)
      → ((n : ℕ) (s : State) → judge np ps on s ≡ flat → P n s (record { word = FLAT; name = 0; state = s }))
      → ((n : ℕ) (s : State) (k : ℕ) → judge np ps on s ≡ stuck k → P n s (record { word = STUCK; name = k; state = s }))
      → ((s : State) (c : Choice) → judge np ps on s ≡ ready c → P 0 s (record { word = PARTIAL; name = 0; state = s }))
      → ((n : ℕ) (s : State) (c : Choice) → judge np ps on s ≡ ready c → (o : Outcome) → P n (lay np ps on s c) o → P (suc n) s o)
      → (n : ℕ) (s : State) → P n s (rounds np ps on n s)
  unfolding rounds
  rounds_cases P f g h step zero s = go (judge np ps on s) refl
    where
      go : (v : Verdict) → judge np ps on s ≡ v
          → P 0 s (elim v as (λ w. Outcome) [ flat ↦ record { word = FLAT; name = 0; state = s } | stuck k ↦ record { word = STUCK; name = k; state = s } | ready c ↦ record { word = PARTIAL; name = 0; state = s } ])
      go flat e = f 0 s e
      go (stuck k) e = g 0 s k e
      go (ready c) e = h s c e
  rounds_cases P f g h step (suc n) s = go (judge np ps on s) refl (λ c. rounds_cases P f g h step n (lay np ps on s c))
    where
      go : (v : Verdict) → judge np ps on s ≡ v → ((c : Choice) → P n (lay np ps on s c) (rounds np ps on n (lay np ps on s c)))
          → P (suc n) s (elim v as (λ w. Outcome) [ flat ↦ record { word = FLAT; name = 0; state = s } | stuck k ↦ record { word = STUCK; name = k; state = s } | ready c ↦ rounds np ps on n (lay np ps on s c) ])
      go flat e r = f (suc n) s e
      go (stuck k) e r = g (suc n) s k e
      go (ready c) e r = step n s c e (rounds np ps on n (lay np ps on s c)) (r c)

  -- FLAT: all channels in play are laid.
  pub rounds_flat : (n : ℕ) (s : State) → (rounds np ps on n s).word ≡ FLAT → T (all_laid np ps on (rounds np ps on n s).state.turns)
  rounds_flat =
      rounds_cases (λ n s o. o.word ≡ FLAT → T (all_laid np ps on o.state.turns))
      (λ n s e w. subst (Flat (T (all_laid np ps on s.turns))) e (judge_flat s))
      (λ n s k e w. absurd (stuck_flat w)) (λ s c e w. absurd (partial_flat w)) (λ n s c e o h. h)

  pub lay_paths : (s : State) (c : Choice) → length (lay np ps on s c).paths ≡ length s.paths + 1
  unfolding lay
  lay_paths s c = length-append s.paths _

  -- PARTIAL: the allowed number of paths is laid.
  pub rounds_partial : (n : ℕ) (s : State) → (rounds np ps on n s).word ≡ PARTIAL → length (rounds np ps on n s).state.paths ≡ length s.paths + n
  rounds_partial =
      rounds_cases (λ n s o. o.word ≡ PARTIAL → length o.state.paths ≡ length s.paths + n)
      (λ n s e w. absurd (partial_flat (sym w))) (λ n s k e w. absurd (stuck_partial w)) (λ s c e w. omega arith)
      (λ n s c e o h w. omega (arith, h w, lay_paths s c))

-- ---- a plate that is read, laid with any number of paths

module _ (b : List ℕ) (p : Plate) (h : read_plate b ≡ given p) (n : ℕ) where
  -- every port is linked to every other
  linked_plate : (q r : ℕ) → q < p.ports → r < p.ports → Linked p.ends (in_play (whole_plate p)) (λ o. true) q r
  linked_plate q r lq lr =
      let A = accepted b p h in
      linked_join p.ends (in_play (whole_plate p)) (λ o. true) (A.joined q lq) (linked_back p.ends (in_play (whole_plate p)) (λ o. true) (play_reverse (whole_plate p)) tt (A.joined r lr))

  -- Laid ports + lands = laid channels + 2.
  pub ports_laid_out : length (laid_ports_of p.ports p.ends (laid_out p n).state.turns) + length (laid_out p n).state.lands ≡ length (laid_channels p.channels (laid_out p n).state.turns) + 2
  ports_laid_out =
      subst (λ (e : ℕ). length (laid_ports_of p.ports p.ends (laid_out p n).state.turns) + length (laid_out p n).state.lands ≡ length (laid_channels e (laid_out p n).state.turns) + 2)
      (length-replicate p.channels true)
      (ports_counted p.ports p.ends (whole_plate p) (layable p (accepted b p h)) (laid_out p n).state (kept_laid_out b p h n))

  -- The number of paths is laid channels minus laid ports.
  pub paths_laid_out : length (laid_out p n).state.paths + length (laid_ports_of p.ports p.ends (laid_out p n).state.turns) ≡ length (laid_channels p.channels (laid_out p n).state.turns)
  paths_laid_out = omega (arith, ports_laid_out, (kept_laid_out b p h n).number)

  -- The darts of all lands are two for each laid channel.
  pub darts_laid_out : length (concat (laid_out p n).state.lands) ≡ 2 * length (laid_channels p.channels (laid_out p n).state.turns)
  darts_laid_out =
      subst (λ (e : ℕ). length (concat (laid_out p n).state.lands) ≡ 2 * length (laid_channels e (laid_out p n).state.turns)) (length-replicate p.channels true)
      (darts_counted p.ports p.ends (whole_plate p) (layable p (accepted b p h)) (laid_out p n).state (kept_laid_out b p h n))

  -- ---- at most: what a buffer has to hold

  missing_laid_out : p.ports + length (laid_channels p.channels (laid_out p n).state.turns) ≤ length (laid_ports_of p.ports p.ends (laid_out p n).state.turns) + p.channels
  missing_laid_out =
      subst (λ (e : ℕ). p.ports + length (laid_channels e (laid_out p n).state.turns) ≤ length (laid_ports_of p.ports p.ends (laid_out p n).state.turns) + e) (length-replicate p.channels true)
      (missing_ports p.ports p.ends (whole_plate p) (layable p (accepted b p h)) linked_plate (laid_out p n).state (kept_laid_out b p h n))

  pub paths_most : length (laid_out p n).state.paths + p.ports ≤ p.channels
  paths_most = omega (arith, paths_laid_out, missing_laid_out)

  -- The lands are at most E−V+2, whatever the number of paths.
  pub lands_most : length (laid_out p n).state.lands ≤ lands_of_flat p
  unfolding lands_of_flat
  lands_most = omega (arith, ports_laid_out, missing_laid_out)

  -- The darts of all lands are at most 2E.
  pub darts_most : length (concat (laid_out p n).state.lands) ≤ 2 * p.channels
  unfolding laid_channels
  darts_most = omega (arith, darts_laid_out, rows_most (λ k. laid (laid_out p n).state.turns (2 * k)) p.channels)

  -- ---- FLAT

  -- every dart is laid
  pub flat_laid : (laid_out p n).word ≡ FLAT → (d : ℕ) → d < length p.ends → T (laid (laid_out p n).state.turns d)
  unfolding laid_out laying all_laid at
  flat_laid w d l =
      let t = (laid_out p n).state.turns in
      let A = accepted b p h in
      let k : T (laid t (2 * (d / 2)) || not (at (whole_plate p) (d / 2))) =
      all_T (λ k. laid t (2 * k) || not (at (whole_plate p) k)) (from 0 (length (whole_plate p))) (d / 2)
      (rounds_flat p.ports p.ends (whole_plate p) n _ w) (count_from (d / 2) 0 (length (whole_plate p)) (omega arith) (omega (arith, A.size, length-replicate p.channels true))) in
      let even : T (laid t (2 * (d / 2))) =
      ⊎_elim (λ u. u) (λ u. absurd (subst (λ (c : Bool). T (not c)) (get_or-replicate p.channels (d / 2) true false (omega (arith, A.size))) u)) (or_T (laid t (2 * (d / 2))) (not (at (whole_plate p) (d / 2))) k) in
      ⊎_elim (λ e. subst (λ (z : ℕ). T (laid t z)) (sym e) even)
      (λ e. subst (λ (z : ℕ). T (laid t z)) (sym e) (subst (λ (c : Bool). T c) (sym ((kept_laid_out b p h n).sound.pair (2 * (d / 2)))) even)) (channel_darts d (d / 2) refl)

  flat_channels : (laid_out p n).word ≡ FLAT → length (laid_channels p.channels (laid_out p n).state.turns) ≡ p.channels
  unfolding laid_channels
  flat_channels w = rows_all (λ k. laid (laid_out p n).state.turns (2 * k)) p.channels (λ k l. flat_laid w (2 * k) (omega (arith, (accepted b p h).size)))

  flat_ports : (laid_out p n).word ≡ FLAT → length (laid_ports_of p.ports p.ends (laid_out p n).state.turns) ≡ p.ports
  flat_ports w =
      let A = accepted b p h in
      all_ports p.ports p.ends (whole_plate p) (layable p A) linked_plate (omega (arith, A.ports.0)) (laid_out p n).state (kept_laid_out b p h n) (flat_laid w)

  -- FLAT: E − V paths.
  pub paths_flat : (laid_out p n).word ≡ FLAT → length (laid_out p n).state.paths + p.ports ≡ p.channels
  paths_flat w = omega (arith, paths_laid_out, flat_channels w, flat_ports w)

  -- FLAT: E−V+2 lands.
  pub lands_flat : (laid_out p n).word ≡ FLAT → length (laid_out p n).state.lands ≡ lands_of_flat p
  unfolding lands_of_flat
  lands_flat w = omega (arith, ports_laid_out, flat_channels w, flat_ports w)
