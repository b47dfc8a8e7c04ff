-- One step of laying by itself (document 01, "Laying"): the first cycle, and one path more. What the first cycle has and every path keeps holds whatever the number of paths.
--   Cycled ps s         the state s is a first cycle: its darts d ∷ q, a way from a port back to it that comes to no port twice, laid both ways
--   Parted ps s z       the state z is s with one path more: the land's number; x and y; the path d ∷ q; A is a ∷ m and B is b ∷ n; what they are, what is laid, and what becomes of turns, lands and paths
--   lp, fr, cs, i, x, y, l, r      of the path that is laid, as in Rounds: the laid ports, the fragment, its contacts, the land's number, the two smallest contacts, the land, the land from x on
-- cycled_start: so is the first state. parted_lay: so is the state after a path for a sensible choice with an admissible land. parted_same, parted_old: A and B have the land's darts, which are laid. parted_lands, parted_kept, parted_others: the lands afterwards. all_parted: what holds of every land afterwards. steps_keep, steps_laying: the induction.
-- Assumes nothing.
use mathlib.Core.Path.{◌≡◌, refl, sym, ap, ◌∙◌, subst}
use mathlib.Core.Logic.{◌≢◌}
use mathlib.Core.Bool.{Bool, false, true, not, ◌&&◌}
use mathlib.Core.List.{List, [], ◌∷◌, ◌++◌, map}
use Prim.Native.Nat.{ℕ, ◌≤◌, ◌<◌, ◌+◌, ◌*◌, ◌/◌}
use native.Mathlib.Omega.{arith}
use lib.Dec.{T, T_not, eqb}
use lib.ListN.{length, get_or, set, length-set, get_or-append}
use lib.Seq.{get_or-set_same, get_or-set_other}
use Rattle.rules.specs.Lists.{at}
use Rattle.rules.specs.Terms.{leaves, enters, laid, visits, listed}
use Rattle.rules.specs.Ways.{path, in_play}
use Rattle.rules.specs.Laying.{State, back, first, before, since, Fragment, Choice, split_turns, split_lands, around, admissible, fragment_at, contacts_of, choice_of, lay, rounds, cycle, start, first_channel, laying}
use Rattle.laws.proofs.Counts.{flag, T_flag, flag_le, count, count_append, zero_of, Distinct}
use Rattle.laws.proofs.Lists.{all_T, All, all_snoc}
use Rattle.laws.proofs.Split.{before_since, since_head, before_head, visits_same}
use Rattle.laws.proofs.Trails.{Trail, inner}
use Rattle.laws.proofs.Reaches.{dart_reverse, Wide}
use Rattle.laws.proofs.Sound.{count_at, all_set, Sound}
use Rattle.laws.proofs.Choices.{Open, laid_now, Sensible, rounds_keep}
use Rattle.laws.proofs.Rounds.{Layable, Kept, kept_laid, kept_lay, lay_contacts, lay_fresh, lay_fits, lay_same, lay_A, lay_B, lay_cut, lay_laid, lay_head, lay_distinct, lay_way, lay_between}
use Rattle.laws.proofs.FirstCycle.{back_head, laid_full, start_once, start_darts, start_way, start_path, kept_start, first_play}

pub record Cycled (ps : List ℕ) (s : State) : Type 0 where
  -- the port where it begins and ends
  pub port : ℕ
  -- its darts
  pub d : ℕ
  pub q : List ℕ
  pub way : Trail ps port (d ∷ q) port
  pub once : Distinct (map (enters ps) (d ∷ q))
  -- they are laid, both ways, and no others
  pub after : (w : ℕ) → flag (laid s.turns w) ≡ count w (d ∷ q) + count w (back (d ∷ q))
  pub lands : s.lands ≡ listed (d ∷ q) ∷ listed (back (d ∷ q)) ∷ []

pub record Parted (ps : List ℕ) (s z : State) : Type 0 where
  -- the number of the land
  pub land : ℕ
  pub below : land < length s.lands
  -- two ports
  pub x : ℕ
  pub y : ℕ
  pub apart : x ≢ y
  -- the path
  pub d : ℕ
  pub q : List ℕ
  pub way : Trail ps x (d ∷ q) y
  -- it comes to no port twice
  pub once : Distinct (x ∷ map (enters ps) (d ∷ q))
  -- none of its darts was laid
  pub fresh : (w : ℕ) → 1 ≤ count w (d ∷ q) → laid s.turns w ≡ false
  -- no laid dart leaves a port between its ends
  pub between : (w : ℕ) → T (laid s.turns w) → count (leaves ps w) (inner ps (d ∷ q)) ≡ 0
  -- A and B: the land, from its dart at x on, and from its dart at y on
  pub a : ℕ
  pub m : List ℕ
  pub b : ℕ
  pub n : List ℕ
  pub turned : (u : List ℕ) × ((v : List ℕ) × (get_or s.lands land [] ≡ u ++ v) × ((a ∷ m) ++ (b ∷ n) ≡ v ++ u))
  pub from_x : leaves ps a ≡ x
  pub from_y : leaves ps b ≡ y
  -- afterwards
  pub after : (w : ℕ) → flag (laid z.turns w) ≡ flag (laid s.turns w) + (count w (d ∷ q) + count w (back (d ∷ q)))
  pub turns : z.turns ≡ split_turns (a ∷ m) (b ∷ n) (d ∷ q) s.turns
  pub lands : z.lands ≡ split_lands land (a ∷ m) (b ∷ n) (d ∷ q) s.lands
  pub paths : (k : ℕ) × (z.paths ≡ s.paths ++ (record { fragment = k; land = land; darts = d ∷ q } ∷ []))

-- ---- one path

module _ (np : ℕ) (ps : List ℕ) (on : List Bool) (G : Layable np ps on) (s : State) (K : Kept ps on s) where
  module _ (k : ℕ) (u : laid s.turns (2 * k) ≡ false) (o : T (at on k))
      (fit : 1 ≤ length (admissible ps (contacts_of np ps on (laid_now np ps s) (fragment_at np ps on (laid_now np ps s) k)) 0 s.lands)) where
    abbrev lp : List Bool
    lp = laid_now np ps s

    abbrev fr : Fragment
    fr = fragment_at np ps on lp k

    abbrev cs : List ℕ
    cs = contacts_of np ps on lp fr

    abbrev i : ℕ
    i = get_or (admissible ps cs 0 s.lands) 0 0

    abbrev x : ℕ
    x = get_or cs 0 0

    abbrev y : ℕ
    y = get_or cs 1 0

    abbrev l : List ℕ
    l = get_or s.lands i []

    abbrev r : List ℕ
    r = since ps x l ++ before ps x l

    -- A begins at x, and B at y
    lay_from_x : leaves ps (lay_A np ps on G s K k u o fit).0 ≡ x
    unfolding first
    lay_from_x =
        let A = lay_A np ps on G s K k u o fit in
        let C = lay_contacts np ps on G s K k u o fit in
        let h = since_head ps x l (all_T (visits ps l) cs x (lay_fits np ps on G s K k u o fit).1 C.2) in
        let e : before ps y r ≡ h.0 ∷ before ps y (h.1.0 ++ before ps x l) =
        ap (λ (v : List ℕ). before ps y (v ++ before ps x l)) h.1.1 ∙ before_head ps y h.0 (h.1.0 ++ before ps x l) (λ f. C.1 (sym h.1.2 ∙ f)) in
        ap (leaves ps) (ap first (sym A.1.1 ∙ e)) ∙ h.1.2

    lay_from_y : leaves ps (lay_B np ps on G s K k u o fit).0 ≡ y
    unfolding first
    lay_from_y =
        let B = lay_B np ps on G s K k u o fit in
        let C = lay_contacts np ps on G s K k u o fit in
        let h = since_head ps y r (visits_same ps y l r (lay_same np ps on G s K k u o fit) (all_T (visits ps l) cs y (lay_fits np ps on G s K k u o fit).1 C.3)) in
        ap (leaves ps) (ap first (sym B.1.1 ∙ h.1.1)) ∙ h.1.2

    parted_fragment : Parted ps s (lay np ps on s (choice_of np ps on lp s.lands fr))
    unfolding lay choice_of
    parted_fragment =
        let A = lay_A np ps on G s K k u o fit in
        let B = lay_B np ps on G s K k u o fit in
        let Q = lay_head np ps on G s K k u o fit in
        record {
          land = i;
          below = (lay_fits np ps on G s K k u o fit).0;
          x = x;
          y = y;
          apart = (lay_contacts np ps on G s K k u o fit).1;
          d = Q.0;
          q = Q.1.0;
          way = lay_way np ps on G s K k u o fit Q.0 Q.1.0 Q.1.1;
          once = lay_distinct np ps on G s K k u o fit Q.0 Q.1.0 Q.1.1;
          fresh = λ w h. (lay_fresh np ps on G s K k u o fit w (subst (λ (v : List ℕ). 1 ≤ count w v) (sym Q.1.1) h)).0;
          between = λ w t. zero_of _ (λ h. T_not (at lp (leaves ps w)) (lay_between np ps on G s K k u o fit Q.0 Q.1.0 Q.1.1 (leaves ps w) h) (kept_laid np ps on G s K w t));
          a = A.0;
          m = A.1.0;
          b = B.0;
          n = B.1.0;
          turned = (before ps x l, (since ps x l, sym (before_since ps x l), sym (lay_cut np ps on G s K k u o fit)));
          from_x = lay_from_x;
          from_y = lay_from_y;
          after = λ w. lay_laid np ps on G s K k u o fit w ∙ ap (λ (v : List ℕ). flag (laid s.turns w) + (count w v + count w (back v))) Q.1.1;
          turns = rw (A.1.1, B.1.1, Q.1.1);
          lands = rw (A.1.1, B.1.1, Q.1.1);
          paths = (fr.name, rw Q.1.1);
        }

  pub parted_lay : (c : Choice) → Sensible np ps on s c → Open c → Parted ps s (lay np ps on s c)
  unfolding choice_of
  parted_lay c h p = subst (λ (e : Choice). Open e → Parted ps s (lay np ps on s e)) (sym h.1) (λ fit. parted_fragment h.0 h.2 h.3 fit) p

-- A and B have the darts of the land, and these are laid
pub parted_same : (ps : List ℕ) (s z : State) (D : Parted ps s z) → (w : ℕ) → count w ((D.a ∷ D.m) ++ (D.b ∷ D.n)) ≡ count w (get_or s.lands D.land [])
parted_same ps s z D w =
    ap (count w) D.turned.1.2 ∙ omega (arith, count_append w D.turned.1.0 D.turned.0, count_append w D.turned.0 D.turned.1.0) ∙ sym (ap (count w) D.turned.1.1)

pub parted_old : (ps : List ℕ) (s z : State) → Sound s.turns s.lands → (D : Parted ps s z) → (w : ℕ) → 1 ≤ count w ((D.a ∷ D.m) ++ (D.b ∷ D.n)) → T (laid s.turns w)
parted_old ps s z K D w h = T_flag (laid s.turns w) (omega (arith, parted_same ps s z D w, count_at w s.lands D.land, K.cover w))

-- the lands afterwards: the path followed by B keeps the land's number, and the lands of other numbers stay as they were
module _ (ps : List ℕ) (s z : State) (D : Parted ps s z) where
  pub parted_lands : z.lands ≡ set s.lands D.land (listed ((D.d ∷ D.q) ++ D.b ∷ D.n)) ++ (listed (back (D.d ∷ D.q) ++ D.a ∷ D.m) ∷ [])
  unfolding split_lands
  parted_lands = D.lands

  parted_as : (j : ℕ) → j < length s.lands → get_or z.lands j [] ≡ get_or (set s.lands D.land (listed ((D.d ∷ D.q) ++ D.b ∷ D.n))) j []
  parted_as j h =
      let kept = set s.lands D.land (listed ((D.d ∷ D.q) ++ D.b ∷ D.n)) in
      ap (λ (k : List (List ℕ)). get_or k j []) parted_lands
      ∙ get_or-append kept (listed (back (D.d ∷ D.q) ++ D.a ∷ D.m) ∷ []) [] j (omega (arith, h, length-set s.lands D.land (listed ((D.d ∷ D.q) ++ D.b ∷ D.n))))

  pub parted_kept : get_or z.lands D.land [] ≡ listed ((D.d ∷ D.q) ++ D.b ∷ D.n)
  parted_kept = parted_as D.land D.below ∙ get_or-set_same s.lands D.land (listed ((D.d ∷ D.q) ++ D.b ∷ D.n)) [] D.below

  pub parted_others : (j : ℕ) → j < length s.lands → j ≢ D.land → get_or z.lands j [] ≡ get_or s.lands j []
  parted_others j h n = parted_as j h ∙ get_or-set_other s.lands D.land j (listed ((D.d ∷ D.q) ++ D.b ∷ D.n)) [] n

-- what holds of every land, and of the two that a path makes of one, holds of every land afterwards
pub all_parted : (ps : List ℕ) (s z : State) → Sound s.turns s.lands → (D : Parted ps s z) → (P : List ℕ → Type 0)
    → P (listed ((D.d ∷ D.q) ++ D.b ∷ D.n)) → P (listed (back (D.d ∷ D.q) ++ D.a ∷ D.m)) → All P s.lands → All P z.lands
all_parted ps s z K D P h k C =
    subst (All P) (sym (parted_lands ps s z D))
    (all_snoc P (set s.lands D.land (listed ((D.d ∷ D.q) ++ D.b ∷ D.n))) (listed (back (D.d ∷ D.q) ++ D.a ∷ D.m))
    (all_set P P s.lands D.land (listed ((D.d ∷ D.q) ++ D.b ∷ D.n)) (λ w. omega (arith, K.cover w, flag_le (laid s.turns w))) (λ l f c. c) h C) k)

-- ---- the first cycle

pub cycled_start : (np : ℕ) (ps : List ℕ) (on : List Bool) → Layable np ps on → Wide ps on → (c : ℕ) → T (at on c) → Cycled ps (start np ps on c)
unfolding start cycle around
cycled_start np ps on G many c o =
    let q : List ℕ = path np ps (λ d. in_play on d && not (eqb (d / 2) c)) (λ p. true) (enters ps (2 * c)) (leaves ps (2 * c)) in
    let h = back_head (2 * c) q in
    record {
      port = leaves ps (2 * c);
      d = 2 * c;
      q = q;
      way = start_way np ps on G many c o;
      once = (start_path np ps on G many c o).1;
      after = λ w. rw h.1.1 (laid_full (length ps) G.few (dart_reverse ps on G.size2) (2 * c) q h.0 h.1.0 h.1.1 (start_darts np ps on G many c o) (start_once np ps on G many c o) w);
      lands = refl;
    }

-- ---- any number of paths

module _ (np : ℕ) (ps : List ℕ) (on : List Bool) (G : Layable np ps on) (many : Wide ps on) (P : State → Type 0)
    (begin : (s : State) → Kept ps on s → Cycled ps s → P s) (step : (s z : State) → Kept ps on s → Kept ps on z → Parted ps s z → P s → P z) where
  -- begun with any channel in play
  pub steps_keep : (c : ℕ) → T (at on c) → (n : ℕ) → P (rounds np ps on n (start np ps on c)).state
  steps_keep c o n =
      (rounds_keep np ps on (λ s. Kept ps on s × P s)
      (λ s h e i p. let z = kept_lay np ps on G s h.0 e i p in (z, step s (lay np ps on s e) h.0 z (parted_lay np ps on G s h.0 e i p) h.1))
      n (start np ps on c) (kept_start np ps on G many c o, begin (start np ps on c) (kept_start np ps on G many c o) (cycled_start np ps on G many c o))).1

  -- with the lowest
  pub steps_laying : (c : ℕ) → T (at on c) → (n : ℕ) → P (laying np ps on n).state
  unfolding laying
  steps_laying c o n = steps_keep (first_channel np ps on) (first_play np ps on c o) n
