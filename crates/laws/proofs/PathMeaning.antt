-- The path that is laid, and the first cycle's, are what document 01 says ("Laying", first cycle and the path): of all ways that may be taken, the one with the fewest channels, and of those the one with the smallest list of ports.
--   stops ps x w                the ports of the way w from x, in order
--   Smaller u v                 at the first place where the lists differ, u has the smaller number
--   NoGreater u v               u is v, or smaller
--   Route np ps on s f x w y    the darts w lead from x to y by f's channels, with no laid port strictly between
--   Round ps on c w             the darts w lead from the second end of channel c to its first, by channels in play without c
--   PathMeans np ps on s f x y q    x and y are the two smallest contacts of f, and q is the route between them with the fewest channels and, of those, the smallest list of ports
--   PathLaid np ps on s t       t is s with one path more: for the fragment that is taken, through its lowest admissible land
--   CycleMeans np ps on c l     l is channel c from its first end to its second, and then the way back with the fewest channels and, of those, the smallest list of ports
-- path_means: the path of a fragment. judge_path: the path of the choice that is made. laying_path, laid_out_path: whatever the number of paths. cycle_means, laid_out_cycle: the first cycle. cycle_lands, laid_out_lands: its two lands.
-- Assumes nothing.
use mathlib.Core.Path.{◌≡◌, refl, subst, sym, ◌∙◌, ap}
use mathlib.Core.Logic.{◌≢◌, ◌⊎◌, inl, inr, ⊎_elim, ◌↔◌}
use mathlib.Core.Bool.{Bool, not, true, false, ◌&&◌, ◌||◌}
use mathlib.Core.List.{List, [], ◌∷◌, ◌++◌, map}
use Prim.Native.Nat.{ℕ, suc, ◌*◌, ◌/◌, ◌<◌, ◌≤◌}
use native.Mathlib.Nat.{not-suc-le-zero, suc_inj, suc-ne-zero}
use native.Mathlib.Omega.{arith}
use lib.Dec.{T, eqb, eqb_refl, T_not}
use lib.ListN.{length, get_or, length-map}
use Rattle.rules.specs.Lists.{seek, at}
use Rattle.rules.specs.Terms.{leaves, reverse, enters, laid, listed}
use Rattle.rules.specs.Ways.{path, in_play}
use Rattle.rules.specs.Refusals.{given, Plate, read_plate}
use Rattle.rules.specs.Laying.{State, Fragment, Choice, ready, PARTIAL, back, admissible, within, fragment_at, contacts_of, choice_of, lay, judge, cycle, start, first_channel, first_cycle, laying, whole_plate, laid_out}
use Rattle.laws.proofs.Tests.{T_or₁, T_or₂, T_and, and_T, neqb_ne, ne_neqb}
use Rattle.laws.proofs.Counts.{is_self, count, count_head, zero_of, Distinct}
use Rattle.laws.proofs.Lists.{seek_first}
use Rattle.laws.proofs.Runs.{reverse_reverse, count_back, count_listed}
use Rattle.laws.proofs.Trails.{inner, inner_leaves}
use Rattle.laws.proofs.Reaches.{whole_of, Wide, Way}
use Rattle.laws.proofs.Paths.{darts_of, LeadsTo, leads_trail, leads_usable}
use Rattle.laws.proofs.Shortest.{Lex, path_fewest, path_least}
use Rattle.laws.proofs.Fragments.{unlaid}
use Rattle.laws.proofs.Choices.{laid_now}
use Rattle.laws.proofs.Rounds.{Layable, Kept, kept_port, lay_contacts, lay_dart, lay_path, lay_head, lay_between}
use Rattle.laws.proofs.FirstCycle.{start_channel, start_dart, start_path, kept_laying}
use Rattle.laws.proofs.Reading.{accepted, layable, channel_play}
use Rattle.laws.proofs.FragmentMeaning.{rising_first, rising_two, IsFragment, Contact, fragment_port, fragment_at_lem, contacts_iff, contacts_rise_lem}
use Rattle.laws.proofs.Verdicts.{judge_chosen, partial_ready, count_some, Admits, Taken, Means, fits_iff, fits_rise, judge_means, rounds_stay, laying_next_state, wide}

-- ---- lists compared from the front

abbrev pub stops : List ℕ → ℕ → List ℕ → List ℕ
stops ps x w = x ∷ map (enters ps) w

pub record Smaller (u v : List ℕ) : Type 0 where
  -- the numbers in common before that place, the two at it, and the rest of each
  pub common : List ℕ
  pub a : ℕ
  pub b : ℕ
  pub rest_u : List ℕ
  pub rest_v : List ℕ
  pub is_u : u ≡ common ++ a ∷ rest_u
  pub is_v : v ≡ common ++ b ∷ rest_v
  pub less : a < b

abbrev pub NoGreater : List ℕ → List ℕ → Type 0
NoGreater u v = (u ≡ v) ⊎ Smaller u v

no_greater_more : (a : ℕ) (u v : List ℕ) → NoGreater u v → NoGreater (a ∷ u) (a ∷ v)
no_greater_more a u v (inl e) = inl (ap (λ (m : List ℕ). a ∷ m) e)
no_greater_more a u v (inr h) = inr (record {
  common = a ∷ h.common;
  a = h.a;
  b = h.b;
  rest_u = h.rest_u;
  rest_v = h.rest_v;
  is_u = ap (λ (m : List ℕ). a ∷ m) h.is_u;
  is_v = ap (λ (m : List ℕ). a ∷ m) h.is_v;
  less = h.less;
})

pub lex_no_greater : (u v : List ℕ) → length u ≡ length v → Lex u v → NoGreater u v
lex_no_greater [] [] e h = inl refl
lex_no_greater [] (b ∷ v) e h = absurd (suc-ne-zero (length v) (sym e))
lex_no_greater (a ∷ u) [] e h = absurd h
lex_no_greater (a ∷ u) (b ∷ v) e h =
    ⊎_elim (λ l. inr (record { common = []; a = a; b = b; rest_u = u; rest_v = v; is_u = refl; is_v = refl; less = l }))
    (λ k. subst (λ (z : ℕ). NoGreater (a ∷ u) (z ∷ v)) k.0 (no_greater_more a u v (lex_no_greater u v (suc_inj e) k.1))) h

-- ---- the path of a fragment

abbrev pub Route : ℕ → List ℕ → List Bool → State → Fragment → ℕ → List ℕ → ℕ → Type 0
Route np ps on s f x w y = LeadsTo ps (within np ps on f) x w y × ((v : ℕ) → 1 ≤ count v (inner ps w) → T (unlaid (laid_now np ps s) v))

pub record PathMeans (np : ℕ) (ps : List ℕ) (on : List Bool) (s : State) (f : Fragment) (x y : ℕ) (q : List ℕ) : Type 0 where
  -- the two smallest contacts
  pub starts_at : Contact np ps on s f x
  pub ends_at : Contact np ps on s f y
  pub less : x < y
  pub smallest : (p : ℕ) → Contact np ps on s f p → p ≢ x → y ≤ p
  -- a route from x to y inside the fragment, which comes to no port twice
  pub route : Route np ps on s f x q y
  pub inside : (v : ℕ) → 1 ≤ count v (inner ps q) → T (at f.ports v)
  pub once : Distinct (stops ps x q)
  -- fewest channels, then smallest list of ports
  pub fewest : (w : List ℕ) → Route np ps on s f x w y → length q ≤ length w
  pub least : (w : List ℕ) → Route np ps on s f x w y → length q ≡ length w → NoGreater (stops ps x q) (stops ps x w)

-- the state t is s with one path more
pub record PathLaid (np : ℕ) (ps : List ℕ) (on : List Bool) (s t : State) : Type 0 where
  -- the fragment that is taken
  pub fragment : Fragment
  pub taken : Taken np ps on s fragment
  -- its lowest-numbered admissible land
  pub land : ℕ
  pub fits : Admits np ps on s fragment land
  pub lowest : (j : ℕ) → Admits np ps on s fragment j → land ≤ j
  -- its path
  pub x : ℕ
  pub y : ℕ
  pub darts : List ℕ
  pub means : PathMeans np ps on s fragment x y darts
  pub paths : t.paths ≡ s.paths ++ (record { fragment = fragment.name; land = land; darts = darts } ∷ [])

module _ (np : ℕ) (ps : List ℕ) (on : List Bool) (G : Layable np ps on) (s : State) (K : Kept ps on s) where
  abbrev lp : List Bool
  lp = laid_now np ps s

  abbrev x_of : Fragment → ℕ
  x_of f = get_or (contacts_of np ps on lp f) 0 0

  abbrev y_of : Fragment → ℕ
  y_of f = get_or (contacts_of np ps on lp f) 1 0

  abbrev q_of : Fragment → List ℕ
  q_of f = path np ps (within np ps on f) (at f.ports) (x_of f) (y_of f)

  -- what a route is to the search: a way through the fragment's ports
  route_way : (f : Fragment) → IsFragment np ps on s f → (x p d : ℕ) (w : List ℕ) (y : ℕ) → LeadsTo ps (within np ps on f) p (d ∷ w) y → T (at f.ports p || eqb p x)
      → ((v : ℕ) → 1 ≤ count v (inner ps (d ∷ w)) → T (unlaid lp v)) → Way ps (within np ps on f) (λ r. at f.ports r || eqb r x) p (d ∷ w) y
  unfolding inner count
  route_way f F x p d [] y h t u = (h.0, h.1, t, h.2)
  route_way f F x p d (e ∷ w) y h t u = (
    h.0,
    h.1,
    t,
    route_way f F x (enters ps d) e w y h.2
        (T_or₁ (at f.ports (enters ps d)) (eqb (enters ps d) x)
        (subst (λ (z : ℕ). T (at f.ports z)) h.2.1
        (fragment_port np ps on s f F e h.2.0 (subst (λ (z : ℕ). T (unlaid lp z)) (sym h.2.1) (u (enters ps d) (count_head (enters ps d) (inner ps (e ∷ w))))))))
        (λ v c. u v (omega arith)),
  )

  route_found : (f : Fragment) → IsFragment np ps on s f → (x : ℕ) (w : List ℕ) (y : ℕ) → Route np ps on s f x w y → Way ps (within np ps on f) (λ r. at f.ports r || eqb r x) x w y
  route_found f F x [] y h = h.0
  route_found f F x (d ∷ w) y h = route_way f F x x d w y h.0 (T_or₂ (at f.ports x) (eqb x x) (eqb_refl x)) h.1

  path_at_lem : (k : ℕ) (u : laid s.turns (2 * k) ≡ false) (o : T (at on k)) → IsFragment np ps on s (fragment_at np ps on lp k)
      → 1 ≤ length (admissible ps (contacts_of np ps on lp (fragment_at np ps on lp k)) 0 s.lands)
      → PathMeans np ps on s (fragment_at np ps on lp k) (x_of (fragment_at np ps on lp k)) (y_of (fragment_at np ps on lp k)) (q_of (fragment_at np ps on lp k))
  unfolding inner count
  path_at_lem k u o F fit =
      let c = lay_contacts np ps on G s K k u o fit in
      let g = lay_path np ps on G s K k u o fit in
      let two = rising_two cs (contacts_rise_lem np ps on lp f) c.0 in
      record {
        starts_at = (contact x).0 c.2;
        ends_at = (contact y).0 c.3;
        less = two.0;
        smallest = λ p h ne. two.1 p ((contact p).1 h) ne;
        route = (g.0, (λ v h. unlaid_at v h));
        inside = λ v h. held v h;
        once = g.1;
        fewest = λ w h. path_fewest np ps ok (at f.ports) x y (darts_of ps G.few) (whole_of ps ok dart) (λ d h. G.inn d (dart d h)) y_in w (route_found f F x w y h);
        least = λ w h e. no_greater_more x (map (enters ps) q) (map (enters ps) w)
            (lex_no_greater (map (enters ps) q) (map (enters ps) w) (length-map q (enters ps) ∙ e ∙ sym (length-map w (enters ps)))
            (path_least np ps ok (at f.ports) x y (darts_of ps G.few) (whole_of ps ok dart) (λ d h. G.inn d (dart d h)) y_in w (route_found f F x w y h) (sym e)));
      }
    where
      f : Fragment
      f = fragment_at np ps on lp k

      ok : ℕ → Bool
      ok = within np ps on f

      cs : List ℕ
      cs = contacts_of np ps on lp f

      x : ℕ
      x = x_of f

      y : ℕ
      y = y_of f

      q : List ℕ
      q = q_of f

      contact : (p : ℕ) → (1 ≤ count p cs) ↔ Contact np ps on s f p
      contact = contacts_iff np ps on G s K f F

      dart : (d : ℕ) → T (ok d) → d < length ps
      dart = lay_dart np ps on G s K k u o fit

      y_in : y < np
      y_in = kept_port np ps on G s K y ((contact y).0 (lay_contacts np ps on G s K k u o fit).3).0

      unlaid_at : (v : ℕ) → 1 ≤ count v (inner ps q) → T (unlaid lp v)
      unlaid_at v h =
          let m = lay_head np ps on G s K k u o fit in
          lay_between np ps on G s K k u o fit m.0 m.1.0 m.1.1 v (subst (λ (l : List ℕ). 1 ≤ count v (inner ps l)) m.1.1 h)

      -- a port between is left by a dart of the path
      left : (l : List ℕ) → LeadsTo ps ok x l y → (v : ℕ) → 1 ≤ count v (inner ps l) → (z : ℕ) × T (ok z) × (leaves ps z ≡ v)
      left [] g v h = absurd (not-suc-le-zero h)
      left (d ∷ m) g v h = let z = inner_leaves ps x d m y v (leads_trail ps ok x (d ∷ m) y g) h in (z.0, leads_usable ps ok x (d ∷ m) y g z.0 z.1, z.2)

      held : (v : ℕ) → 1 ≤ count v (inner ps q) → T (at f.ports v)
      held v h =
          let z = left q (lay_path np ps on G s K k u o fit).0 v h in
          subst (λ (r : ℕ). T (at f.ports r)) z.2 (fragment_port np ps on s f F z.0 z.1 (subst (λ (r : ℕ). T (unlaid lp r)) (sym z.2) (unlaid_at v h)))

  -- The path of a fragment that has an admissible land.
  pub path_means : (f : Fragment) → IsFragment np ps on s f → (i : ℕ) → Admits np ps on s f i → PathMeans np ps on s f (x_of f) (y_of f) (q_of f)
  unfolding choice_of
  path_means f F i A =
      let p = fragment_at_lem np ps on G s K f F in
      subst (λ (e : Fragment). IsFragment np ps on s e → 1 ≤ length (admissible ps (contacts_of np ps on lp e) 0 s.lands) → PathMeans np ps on s e (x_of e) (y_of e) (q_of e)) (sym p.1)
      (path_at_lem p.0 p.2 p.3) F (count_some i _ ((fits_iff np ps on G s K f F i).1 A))

  -- what `lay` records of the path
  recorded : (f : Fragment) → (lay np ps on s (choice_of np ps on lp s.lands f)).paths
      ≡ s.paths ++ (record { fragment = f.name; land = get_or (choice_of np ps on lp s.lands f).fits 0 0; darts = q_of f } ∷ [])
  unfolding lay choice_of
  recorded f = refl

  -- The path of the choice that is made.
  pub judge_path : (c : Choice) → judge np ps on s ≡ ready c → PathLaid np ps on s (lay np ps on s c)
  judge_path c e =
      let m = subst (Means np ps on s) e (judge_means np ps on G s K) in
      subst (λ (d : Choice). PathLaid np ps on s (lay np ps on s d)) (sym m.1.1) (laid_for_lem m.1.0 m.1.2 (m.0.1 m.1.0 m.1.2.0))
    where
      laid_for_lem : (f : Fragment) → Taken np ps on s f → (i : ℕ) × Admits np ps on s f i → PathLaid np ps on s (lay np ps on s (choice_of np ps on lp s.lands f))
      laid_for_lem f t a =
          let ms = (choice_of np ps on lp s.lands f).fits in
          let fit : (j : ℕ) → (1 ≤ count j ms) ↔ Admits np ps on s f j = fits_iff np ps on G s K f t.0 in
          let least : (j : ℕ) → 1 ≤ count j ms → (1 ≤ count (get_or ms 0 0) ms) × (get_or ms 0 0 ≤ j) = rising_first ms (fits_rise np ps on G s K f) in
          record {
            fragment = f;
            taken = t;
            land = get_or ms 0 0;
            fits = (fit (get_or ms 0 0)).0 (least a.0 ((fit a.0).1 a.1)).0;
            lowest = λ j b. (least j ((fit j).1 b)).1;
            x = x_of f;
            y = y_of f;
            darts = q_of f;
            means = path_means f t.0 a.0 a.1;
            paths = recorded f;
          }

-- Whatever the number of paths: where more could be laid, the next is the path that document 01 says.
pub laying_path : (np : ℕ) (ps : List ℕ) (on : List Bool) → Layable np ps on → Wide ps on → (c : ℕ) → T (at on c) → (n : ℕ) → (laying np ps on n).word ≡ PARTIAL
    → PathLaid np ps on (laying np ps on n).state (laying np ps on (suc n)).state
unfolding laying
laying_path np ps on G many c o n e =
    let s = (laying np ps on n).state in
    let r = partial_ready np ps on n (start np ps on (first_channel np ps on)) e in
    let laid_so = judge_path np ps on G s (kept_laying np ps on G many c o n) r.0 r.1 in
    ⊎_elim
    (λ h. subst (PathLaid np ps on s) (ap (lay np ps on s) (judge_chosen np ps on s r.0 r.1) ∙ sym h.1) laid_so)
    (λ h. absurd (h.0 e)) (laying_next_state np ps on n)

pub laid_out_path : (b : List ℕ) (p : Plate) → read_plate b ≡ given p → (n : ℕ) → (laid_out p n).word ≡ PARTIAL → PathLaid p.ports p.ends (whole_plate p) (laid_out p n).state (laid_out p (suc n)).state
unfolding laid_out
laid_out_path b p h n e =
    let A = accepted b p h in
    laying_path p.ports p.ends (whole_plate p) (layable p A) (wide p A) 0 (channel_play p A) n e

-- ---- the first cycle

abbrev pub Round : List ℕ → List Bool → ℕ → List ℕ → Type 0
Round ps on c w = LeadsTo ps (in_play on) (enters ps (2 * c)) w (leaves ps (2 * c)) × ((d : ℕ) → 1 ≤ count d w → d / 2 ≢ c)

pub record CycleMeans (np : ℕ) (ps : List ℕ) (on : List Bool) (c : ℕ) (l : List ℕ) : Type 0 where
  -- channel c from its first end to its second, and a way back without it
  pub way : List ℕ
  pub whole : l ≡ 2 * c ∷ way
  pub round : Round ps on c way
  -- it comes to no port twice
  pub once : Distinct (stops ps (enters ps (2 * c)) way)
  -- fewest channels, then smallest list of ports
  pub fewest : (w : List ℕ) → Round ps on c w → length way ≤ length w
  pub least : (w : List ℕ) → Round ps on c w → length way ≡ length w → NoGreater (stops ps (enters ps (2 * c)) way) (stops ps (enters ps (2 * c)) w)

module _ (np : ℕ) (ps : List ℕ) (on : List Bool) (G : Layable np ps on) (many : Wide ps on) (c : ℕ) (o : T (at on c)) where
  abbrev ok_c : ℕ → Bool
  ok_c d = in_play on d && not (eqb (d / 2) c)

  abbrev a : ℕ
  a = leaves ps (2 * c)

  abbrev b : ℕ
  b = enters ps (2 * c)

  abbrev way : List ℕ
  way = path np ps ok_c (λ p. true) b a

  leads_play : (p : ℕ) (w : List ℕ) (y : ℕ) → LeadsTo ps ok_c p w y → LeadsTo ps (in_play on) p w y
  leads_play p [] y h = h
  leads_play p (d ∷ w) y h = ((and_T (in_play on d) (not (eqb (d / 2) c)) h.0).0, h.1, leads_play (enters ps d) w y h.2)

  round_found : (p : ℕ) (w : List ℕ) (y : ℕ) → LeadsTo ps (in_play on) p w y → ((d : ℕ) → 1 ≤ count d w → d / 2 ≢ c) → Way ps ok_c (λ r. true || eqb r b) p w y
  unfolding count
  round_found p [] y h n = h
  round_found p (d ∷ w) y h n =
      (T_and (in_play on d) (not (eqb (d / 2) c)) h.0 (ne_neqb (d / 2) c (n d (omega (arith, is_self d)))), h.1, tt, round_found (enters ps d) w y h.2 (λ e k. n e (omega arith)))

  a_in : a < np
  a_in = G.inn (2 * c) (start_channel np ps on G many c o)

  -- The first cycle, begun with any channel in play.
  pub cycle_means : CycleMeans np ps on c (cycle np ps on c)
  unfolding cycle
  cycle_means =
      let g = start_path np ps on G many c o in
      let dart = start_dart np ps on G many c o in
      record {
        way = way;
        whole = refl;
        round = (leads_play b way a g.0, (λ d h. neqb_ne (d / 2) c (and_T (in_play on d) (not (eqb (d / 2) c)) (leads_usable ps ok_c b way a g.0 d h)).1));
        once = g.1;
        fewest = λ w h. path_fewest np ps ok_c (λ p. true) b a (darts_of ps G.few) (whole_of ps ok_c dart) (λ d k. G.inn d (dart d k)) a_in w (round_found b w a h.0 h.1);
        least = λ w h e. no_greater_more b (map (enters ps) way) (map (enters ps) w)
            (lex_no_greater (map (enters ps) way) (map (enters ps) w) (length-map way (enters ps) ∙ e ∙ sym (length-map w (enters ps)))
            (path_least np ps ok_c (λ p. true) b a (darts_of ps G.few) (whole_of ps ok_c dart) (λ d k. G.inn d (dart d k)) a_in w (round_found b w a h.0 h.1) (sym e)));
      }

  -- Land 0 is the first cycle and holds its first dart; land 1 is the same walked backwards and holds the reverse.
  pub cycle_lands : ((start np ps on c).lands ≡ listed (cycle np ps on c) ∷ listed (back (cycle np ps on c)) ∷ [])
      × (1 ≤ count (2 * c) (get_or (start np ps on c).lands 0 [])) × (1 ≤ count (reverse (2 * c)) (get_or (start np ps on c).lands 1 []))
  unfolding start cycle
  cycle_lands = (
    refl,
    omega (arith, count_listed (2 * c) (2 * c ∷ way), count_head (2 * c) way),
    omega (arith, count_listed (reverse (2 * c)) (back (2 * c ∷ way)), count_back (reverse (2 * c)) (2 * c ∷ way), ap (λ (z : ℕ). count z (2 * c ∷ way)) (reverse_reverse (2 * c)), count_head (2 * c) way),
  )

first_zero : (np : ℕ) (ps : List ℕ) (on : List Bool) → T (at on 0) → first_channel np ps on ≡ 0
unfolding first_channel
first_zero np ps on o = zero_of (seek (at on) 0 (length on)) (λ l. T_not (at on 0) (seek_first (at on) 0 (length on) 0 (omega arith) l) o)

-- The first cycle of a plate that is read begins with channel 0; no path laid, the state is the one that it leaves.
pub laid_out_cycle : (b : List ℕ) (p : Plate) → read_plate b ≡ given p → (first_channel p.ports p.ends (whole_plate p) ≡ 0) × CycleMeans p.ports p.ends (whole_plate p) 0 (first_cycle p.ports p.ends (whole_plate p))
    × ((laid_out p 0).state ≡ start p.ports p.ends (whole_plate p) 0)
unfolding laid_out laying first_cycle
laid_out_cycle b p h =
    let A = accepted b p h in
    let np = p.ports in
    let ps = p.ends in
    let on = whole_plate p in
    let e : first_channel np ps on ≡ 0 = first_zero np ps on (channel_play p A) in (
      e,
      subst (λ (c : ℕ). CycleMeans np ps on 0 (cycle np ps on c)) (sym e) (cycle_means np ps on (layable p A) (wide p A) 0 (channel_play p A)),
      rounds_stay np ps on (start np ps on (first_channel np ps on)) ∙ ap (start np ps on) e,
    )

-- Its two lands: land 0 holds dart 0, land 1 holds dart 1.
pub laid_out_lands : (b : List ℕ) (p : Plate) → read_plate b ≡ given p
    → ((laid_out p 0).state.lands ≡ listed (first_cycle p.ports p.ends (whole_plate p)) ∷ listed (back (first_cycle p.ports p.ends (whole_plate p))) ∷ [])
    × (1 ≤ count 0 (get_or (laid_out p 0).state.lands 0 [])) × (1 ≤ count 1 (get_or (laid_out p 0).state.lands 1 []))
unfolding first_cycle reverse
laid_out_lands b p h =
    let A = accepted b p h in
    let np = p.ports in
    let ps = p.ends in
    let on = whole_plate p in
    let C = laid_out_cycle b p h in
    let lands : (laid_out p 0).state.lands ≡ (start np ps on 0).lands = ap (λ (s : State). s.lands) C.2 in
    let L = cycle_lands np ps on (layable p A) (wide p A) 0 (channel_play p A) in (
      lands ∙ L.0 ∙ ap (λ (c : ℕ). listed (cycle np ps on c) ∷ listed (back (cycle np ps on c)) ∷ []) (sym C.0),
      subst (λ (ls : List (List ℕ)). 1 ≤ count 0 (get_or ls 0 [])) (sym lands) L.1,
      subst (λ (ls : List (List ℕ)). 1 ≤ count 1 (get_or ls 1 [])) (sym lands) L.2,
    )
