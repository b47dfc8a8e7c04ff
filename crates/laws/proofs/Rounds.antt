-- A round keeps the turns and lands sound (document 01, "Laying"), and so does any number of rounds.
--   Layable np ps on    a plate that can be laid by the channels in play: what the reader's tests leave
--   Kept ps on s        what holds of the state after every path: sound turns and lands, a land more for each path, and the count of ports, channels and lands
--   tn, lp              of a state s: its turns, and its laid ports
--   fr, ok, cs          of a choice: its fragment, the fragment's darts, its contacts
--   i, x, y, l, r, a, b, q      of the path that is laid: the land's number, the two smallest contacts, the land, the land from x on, A, B, the path
--   P                   the laid ports, listed
-- kept_..: what holds of a state that is kept. lay_..: what holds of the path and the land that it splits. kept_lay: a path that is laid for a sensible choice with an admissible land keeps all that. kept_rounds: so do any number of rounds.
-- Assumes nothing.
use mathlib.Core.Path.{◌≡◌, subst, sym, ◌∙◌, ap, refl}
use mathlib.Core.Logic.{◌≢◌, ⊎_elim}
use mathlib.Core.Bool.{Bool, false, ◌||◌}
use mathlib.Core.List.{List, [], ◌∷◌, ◌++◌, map}
use Prim.Native.Nat.{ℕ, ◌*◌, ◌<◌, ◌≤◌, ◌+◌}
use native.Mathlib.Nat.{eq-zero-or-pos}
use native.Mathlib.Omega.{arith}
use lib.Dec.{T, eqb, eqb→eq, T_not}
use lib.ListN.{length, replicate, length-replicate, get_or, length-append, length-set}
use Rattle.rules.specs.Lists.{from, all, at}
use Rattle.rules.specs.Terms.{leaves, reverse, enters, missing, laid, visits}
use Rattle.rules.specs.Ways.{only, iter, larger, path, in_play}
use Rattle.rules.specs.Laying.{State, back, before, since, Fragment, Choice, split_turns, split_lands, admissible, within, fragment_at, contacts_of, choice_of, lay, rounds}
use Rattle.laws.proofs.Tests.{or_T}
use Rattle.laws.proofs.Counts.{flag, flag_T, T_flag, is_cases, is_apart, count, count_head, count_append, zero_of, Distinct, distinct_le}
use Rattle.laws.proofs.Lists.{all_T, count_from}
use Rattle.laws.proofs.Sets.{at_lt, at_none}
use Rattle.laws.proofs.Runs.{reverse_reverse, count_back, Land, land_turn}
use Rattle.laws.proofs.Links.{laid_lt}
use Rattle.laws.proofs.Split.{before_since, since_head, before_head, visits_same, length_split}
use Rattle.laws.proofs.Trails.{leaves_reverse, Trail, trail_once, inner, length_inner, inner_leaves, inner_le}
use Rattle.laws.proofs.Reaches.{whole_of, play_dart, dart_reverse, play_reverse, reached_iff, Touched, Firm}
use Rattle.laws.proofs.Paths.{darts_of, LeadsTo, leads_trail, leads_usable, path_good}
use Rattle.laws.proofs.Sound.{all_at, count_at, Sound, sound_laid, sound_split}
use Rattle.laws.proofs.Euler.{Counted, counted_split, Ports, ports_split}
use Rattle.laws.proofs.Fragments.{length_laid_ports, laid_ports_adds, laid_ports_from, within_play, unlaid, inside_unlaid, within_unlaid, contacts_linked, contacts_from, contacts_two}
use Rattle.laws.proofs.Choices.{admitted, first_fit_lem, Open, laid_now, Sensible, rounds_keep}

pub record Layable (np : ℕ) (ps : List ℕ) (on : List Bool) : Type 0 where
  -- a flag for each channel
  pub size2 : length ps ≡ 2 * length on
  -- no dart is the mark of a missing turn
  pub few : length ps < missing
  -- every dart leaves a port
  pub inn : (d : ℕ) → d < length ps → leaves ps d < np
  -- no channel has equal ends
  pub loops : (d : ℕ) → d < length ps → leaves ps d ≢ enters ps d
  -- no port cuts what the channels in play touch
  pub whole : Firm ps on

pub record Kept (ps : List ℕ) (on : List Bool) (s : State) : Type 0 where
  -- what is laid is in play
  pub play : (z : ℕ) → T (laid s.turns z) → T (in_play on z)
  pub sound : Sound s.turns s.lands
  pub long : length s.turns ≡ length ps
  pub some : 1 ≤ length s.lands
  -- a land more for each path
  pub number : length s.lands ≡ length s.paths + 2
  -- the laid ports, and with them the count of ports, channels and lands
  pub ports : (P : List ℕ) × Ports ps s.turns P × Counted (length P) s.lands

pub land_head : (t l : List ℕ) → Land t l → (d : ℕ) × (1 ≤ count d l)
land_head t [] h = absurd h
land_head t (d ∷ l) h = (d, count_head d l)

module _ (np : ℕ) (ps : List ℕ) (on : List Bool) (G : Layable np ps on) (s : State) (K : Kept ps on s) where
  abbrev tn : List ℕ
  tn = s.turns

  abbrev lp : List Bool
  lp = laid_now np ps s

  pub kept_even : (z : ℕ) → z < length tn → reverse z < length tn
  kept_even z h = omega (arith, K.long, dart_reverse ps on G.size2 z (omega (arith, K.long)))

  -- ---- the laid ports

  pub kept_dart : (z : ℕ) → T (laid tn z) → z < length ps
  kept_dart z h = omega (arith, laid_lt tn z h, K.long)

  pub kept_laid : (z : ℕ) → T (laid tn z) → T (at lp (leaves ps z))
  kept_laid z h =
      laid_ports_adds ps tn (from 0 (length ps)) (replicate np false) z (count_from z 0 (length ps) (omega arith) (omega (arith, kept_dart z h))) h
      (omega (arith, G.inn z (kept_dart z h), length-replicate np false))

  pub kept_port : (p : ℕ) → T (at lp p) → p < np
  kept_port p h = omega (arith, at_lt lp p h, length_laid_ports ps tn (from 0 (length ps)) (replicate np false), length-replicate np false)

  pub kept_touched : (p : ℕ) → T (at lp p) → Touched ps on p
  kept_touched p h =
      ⊎_elim (λ m. absurd (at_none np p m)) (λ z. (z.0, K.play z.0 z.1, z.2)) (laid_ports_from ps tn (from 0 (length ps)) (replicate np false) p h)

  pub kept_land : (i z : ℕ) → 1 ≤ count z (get_or s.lands i []) → T (laid tn z)
  kept_land i z h = T_flag (laid tn z) (omega (arith, count_at z s.lands i, K.sound.cover z))

  -- there is another laid port than c
  pub kept_second : (c : ℕ) → (w : ℕ) × T (at lp w) × (w ≢ c)
  kept_second c =
      let d = land_head tn (get_or s.lands 0 []) (all_at (Land tn) s.lands 0 K.some K.sound.follow) in
      let l = kept_land 0 d.0 d.1 in
      ⊎_elim
      (λ e. (
        enters ps d.0,
        subst (λ (p : ℕ). T (at lp p)) (leaves_reverse ps d.0) (kept_laid (reverse d.0) (subst (λ (b : Bool). T b) (sym (K.sound.pair d.0)) l)),
        (λ q. G.loops d.0 (kept_dart d.0 l) (e ∙ sym q)),
      ))
      (λ n. (leaves ps d.0, kept_laid d.0 l, is_apart (leaves ps d.0) c n))
      (is_cases (leaves ps d.0) c)

  -- ---- the path of a fragment that has an admissible land

  module _ (k : ℕ) (u : laid tn (2 * k) ≡ false) (o : T (at on k))
      (fit : 1 ≤ length (admissible ps (contacts_of np ps on lp (fragment_at np ps on lp k)) 0 s.lands)) where
    abbrev fr : Fragment
    fr = fragment_at np ps on lp k

    abbrev ok : ℕ → Bool
    ok = within np ps on fr

    abbrev cs : List ℕ
    cs = contacts_of np ps on lp fr

    abbrev i : ℕ
    i = get_or (admissible ps cs 0 s.lands) 0 0

    abbrev x : ℕ
    x = get_or cs 0 0

    abbrev y : ℕ
    y = get_or cs 1 0

    abbrev l : List ℕ
    l = get_or s.lands i []

    abbrev r : List ℕ
    r = since ps x l ++ before ps x l

    abbrev a : List ℕ
    a = before ps y r

    abbrev b : List ℕ
    b = since ps y r

    abbrev q : List ℕ
    q = path np ps ok (at fr.ports) x y

    pub lay_contacts : (2 ≤ length cs) × (x ≢ y) × (1 ≤ count x cs) × (1 ≤ count y cs)
    lay_contacts = contacts_two np ps on lp G.size2 G.inn G.whole kept_port kept_touched kept_second k o (G.loops (2 * k) (omega (arith, at_lt on k o, G.size2)))

    pub lay_contact : (p : ℕ) → 1 ≤ count p cs → T (at lp p) × ((d : ℕ) × T (ok d) × (leaves ps d ≡ p))
    lay_contact p h = contacts_from np ps on lp G.size2 G.inn k p h

    pub lay_dart : (d : ℕ) → T (ok d) → d < length ps
    lay_dart d h = play_dart ps on G.size2 d (within_play np ps on fr d h)

    pub lay_reachable : T (at (iter (larger ps ok (λ p. at fr.ports p || eqb p x)) np (only np y)) x)
    unfolding fragment_at
    lay_reachable =
        let tx = lay_contact x lay_contacts.2 in
        let ty = lay_contact y lay_contacts.3 in
        (reached_iff np ps ok (λ p. at fr.ports p || eqb p x) (whole_of ps ok lay_dart) (λ d h. G.inn d (lay_dart d h)) y (kept_port y ty.0) x).1
        (contacts_linked np ps on lp G.size2 G.inn k o x y tx.1.0 ty.1.0 lay_contacts.1 tx.1.1 tx.1.2 tx.0 ty.1.1 ty.1.2 ty.0)

    pub lay_path : LeadsTo ps ok x q y × Distinct (x ∷ map (enters ps) q) × ((z : ℕ) → 1 ≤ count z q → T (at fr.ports (leaves ps z) || eqb (leaves ps z) x))
    lay_path = path_good np ps ok (at fr.ports) x y (darts_of ps G.few) (whole_of ps ok lay_dart) (kept_port y (lay_contact y lay_contacts.3).0) lay_reachable

    pub lay_trail : Trail ps x q y
    lay_trail = leads_trail ps ok x q y lay_path.0

    pub lay_fresh : (z : ℕ) → 1 ≤ count z q → (laid tn z ≡ false) × (z < length tn)
    lay_fresh z c =
        let h = leads_usable ps ok x q y lay_path.0 z c in
        (within_unlaid np ps on lp tn kept_laid K.sound.pair k z u h, omega (arith, lay_dart z h, K.long))

    pub lay_once : (z : ℕ) → count z q + count (reverse z) q ≤ 1
    lay_once = trail_once ps x q y lay_trail lay_path.1

    -- ---- the land that is split

    pub lay_fits : (i < length s.lands) × T (all (visits ps l) cs)
    lay_fits = first_fit_lem ps cs s.lands (admissible ps cs 0 s.lands) (admitted ps cs 0 s.lands) fit

    pub lay_same : (z : ℕ) → count z l ≡ count z r
    lay_same z = omega (arith, count_append z (since ps x l) (before ps x l), count_append z (before ps x l) (since ps x l), ap (count z) (before_since ps x l))

    pub lay_land : Land tn r
    lay_land =
        land_turn tn (before ps x l) (since ps x l) (subst (Land tn) (sym (before_since ps x l)) (all_at (Land tn) s.lands i lay_fits.0 K.sound.follow))

    -- A is not empty, and neither is B
    pub lay_A : (d : ℕ) × ((m : List ℕ) × (a ≡ d ∷ m))
    lay_A =
        let h = since_head ps x l (all_T (visits ps l) cs x lay_fits.1 lay_contacts.2) in
        (h.0, (_, ap (λ (m : List ℕ). before ps y (m ++ before ps x l)) h.1.1 ∙ before_head ps y h.0 (h.1.0 ++ before ps x l) (λ e. lay_contacts.1 (sym h.1.2 ∙ e))))

    pub lay_B : (d : ℕ) × ((m : List ℕ) × (b ≡ d ∷ m))
    lay_B =
        let h = since_head ps y r (visits_same ps y l r lay_same (all_T (visits ps l) cs y lay_fits.1 lay_contacts.3)) in
        (h.0, (h.1.0, h.1.1))

    pub lay_cut : r ≡ (lay_A.0 ∷ lay_A.1.0) ++ (lay_B.0 ∷ lay_B.1.0)
    lay_cut = sym (before_since ps y r) ∙ ap (λ (m : List ℕ). m ++ b) lay_A.1.1 ∙ ap (λ (m : List ℕ). (lay_A.0 ∷ lay_A.1.0) ++ m) lay_B.1.1

    pub lay_sound : Sound (split_turns a b q tn) (split_lands i a b q s.lands)
    lay_sound =
        let A = lay_A in
        let B = lay_B in
        rw (A.1.1, B.1.1)
        (sound_split tn s.lands K.sound (omega (arith, K.long, G.few)) kept_even i lay_fits.0 A.0 A.1.0 B.0 B.1.0 q
        (subst (Land tn) lay_cut lay_land) (λ z. sym (ap (count z) lay_cut) ∙ sym (lay_same z)) lay_fresh lay_once)

    pub lay_laid : (z : ℕ) → flag (laid (split_turns a b q tn) z) ≡ flag (laid tn z) + (count z q + count z (back q))
    lay_laid z =
        let A = lay_A in
        let B = lay_B in
        rw (A.1.1, B.1.1)
        (sound_laid tn s.lands K.sound (omega (arith, K.long, G.few)) kept_even i lay_fits.0 A.0 A.1.0 B.0 B.1.0 q
        (subst (Land tn) lay_cut lay_land) (λ w. sym (ap (count w) lay_cut) ∙ sym (lay_same w)) lay_fresh lay_once z)

    pub lay_play : (z : ℕ) → T (laid (split_turns a b q tn) z) → T (in_play on z)
    lay_play z h =
        ⊎_elim
        (λ n. ⊎_elim (λ m. K.play z (T_flag (laid tn z) (omega (arith, lay_laid z, flag_T (laid (split_turns a b q tn) z) h))))
        (λ c. subst (λ (w : ℕ). T (in_play on w)) (reverse_reverse z) (play_reverse on (reverse z) (within_play np ps on fr (reverse z) (leads_usable ps ok x q y lay_path.0 (reverse z) (omega (arith, c, count_back z q))))))
        (eq-zero-or-pos (count z (back q))))
        (λ c. within_play np ps on fr z (leads_usable ps ok x q y lay_path.0 z c))
        (eq-zero-or-pos (count z q))

    -- ---- the count

    abbrev P : List ℕ
    P = K.ports.0

    pub lay_port : (p : ℕ) → T (at lp p) → count p P ≡ 1
    lay_port p h =
        ⊎_elim (λ m. absurd (at_none np p m)) (λ z. ap (λ (w : ℕ). count w P) (sym z.2) ∙ K.ports.1.some z.0 z.1)
        (laid_ports_from ps tn (from 0 (length ps)) (replicate np false) p h)

    pub lay_head : (d : ℕ) × ((m : List ℕ) × (q ≡ d ∷ m))
    lay_head = go q lay_path.0
      where
        go : (m : List ℕ) → LeadsTo ps ok x m y → (d : ℕ) × ((n : List ℕ) × (m ≡ d ∷ n))
        go [] h = absurd (lay_contacts.1 h)
        go (d ∷ m) h = (d, (m, refl))

    module _ (d : ℕ) (m : List ℕ) (e : q ≡ d ∷ m) where
      pub lay_distinct : Distinct (x ∷ map (enters ps) (d ∷ m))
      lay_distinct = subst (λ (w : List ℕ). Distinct (x ∷ map (enters ps) w)) e lay_path.1

      pub lay_way : Trail ps x (d ∷ m) y
      lay_way = subst (λ (w : List ℕ). Trail ps x w y) e lay_trail

      -- the ports between the path's ends are unlaid
      pub lay_between : (v : ℕ) → 1 ≤ count v (inner ps (d ∷ m)) → T (unlaid lp v)
      unfolding fragment_at count
      lay_between v h =
          let z = inner_leaves ps x d m y v lay_way h in
          let f = lay_path.2 z.0 (subst (λ (w : List ℕ). 1 ≤ count z.0 w) (sym e) z.1) in
          let notx : v ≢ x = (λ g. omega (arith, lay_distinct.0, inner_le ps d m v, ap (λ (w : ℕ). count w (map (enters ps) (d ∷ m))) g)) in
          ⊎_elim (λ g. inside_unlaid np ps on lp k v (subst (λ (w : ℕ). T (at fr.ports w)) z.2 g))
          (λ g. absurd (notx (sym z.2 ∙ eqb→eq (leaves ps z.0) x g))) (or_T (at fr.ports (leaves ps z.0)) (eqb (leaves ps z.0) x) f)

      pub lay_new : (v : ℕ) → 1 ≤ count v (inner ps (d ∷ m)) → (count v (inner ps (d ∷ m)) ≡ 1) × (count v P ≡ 0)
      lay_new v h = (
        omega (arith, inner_le ps d m v, distinct_le (map (enters ps) (d ∷ m)) lay_distinct.1 v),
        zero_of (count v P) (λ n. let w = K.ports.1.only v n in T_not (at lp v) (lay_between v h) (subst (λ (j : ℕ). T (at lp j)) w.2 (kept_laid w.0 w.1))),
      )

      pub lay_ports : (Q : List ℕ) × Ports ps (split_turns a b q tn) Q × Counted (length Q) (split_lands i a b q s.lands)
      lay_ports = (
        inner ps (d ∷ m) ++ P,
        ports_split ps tn (split_turns a b q tn) P K.ports.1 x d m y lay_way
            (λ z. lay_laid z ∙ ap (λ (w : List ℕ). flag (laid tn z) + (count z w + count z (back w))) e)
            (lay_port x (lay_contact x lay_contacts.2).0) (lay_port y (lay_contact y lay_contacts.3).0) lay_new,
        subst (λ (n : ℕ). Counted n (split_lands i a b q s.lands)) (omega (arith, length-append (inner ps (d ∷ m)) P))
            (counted_split (length P) s.lands i a b q (length (inner ps (d ∷ m))) K.ports.2 lay_fits.0
            (omega (arith, length-append (since ps x l) (before ps x l), length-append (before ps x l) (since ps x l), ap length (before_since ps x l), ap length (before_since ps y r), length-append a b))
            (length_inner ps d m ∙ ap length (sym e))),
      )

  pub kept_lay : (c : Choice) → Sensible np ps on s c → Open c → Kept ps on (lay np ps on s c)
  unfolding lay choice_of split_lands
  kept_lay c h p =
      subst (λ (e : Choice). Open e → Kept ps on (lay np ps on s e)) (sym h.1)
      (λ fit.
      let q₀ = lay_head h.0 h.2 h.3 fit in
      record {
        play = lay_play h.0 h.2 h.3 fit;
        sound = lay_sound h.0 h.2 h.3 fit;
        long = length_split _ _ _ tn ∙ K.long;
        some = simp length-append (omega arith);
        number = simp (length-append, length-set) (omega (arith, K.number));
        ports = lay_ports h.0 h.2 h.3 fit q₀.0 q₀.1.0 q₀.1.1;
      }) p

-- after any number of rounds
pub kept_rounds : (np : ℕ) (ps : List ℕ) (on : List Bool) → Layable np ps on → (n : ℕ) (s : State) → Kept ps on s → Kept ps on (rounds np ps on n s).state
kept_rounds np ps on G n s K = rounds_keep np ps on (Kept ps on) (kept_lay np ps on G) n s K
