-- What the slices hold (specs, "Rooms"), after the first cycle and after each path.
--   choice_at v ends play lp ls k     the choice of the fragment that channel k names, lp being the laid ports and ls the lands
-- lands_few: a kept state has at most two lands more than there are channels, and at most two darts for each. place_..: so there is room in the story. chosen_..: what a choice says of the fragment that the code names.
-- can_divide, did_divide: the path found can be laid, and then the state after it is held. can_begin, did_begin: so it is with the first cycle.
-- Assumes nothing.
use mathlib.Core.Path.{◌≡◌, refl, sym, ap, ◌∙◌, subst}
use mathlib.Core.Bool.{Bool}
use mathlib.Core.List.{List, [], ◌∷◌, ◌++◌}
use Prim.Native.Nat.{ℕ, ◌+◌, ◌*◌, ◌<◌, ◌≤◌}
use native.Mathlib.Omega.{arith}
use lib.Dec.{T}
use lib.ListN.{length, get_or, set, take, length-append}
use Rattle.rules.specs.Lists.{at}
use Rattle.rules.specs.Terms.{laid, listed}
use Rattle.rules.specs.Laying.{State, Choice, back, before, since, split_lands, admissible, fragment_at, choice_of, cycle, start, lay, first_channel, first_cycle}
use Rattle.laws.proofs.Tests.{T_is}
use Rattle.laws.proofs.Sets.{at_lt}
use Rattle.laws.proofs.Runs.{length_back, length_listed}
use Rattle.laws.proofs.Split.{before_since}
use Rattle.laws.proofs.Euler.{length_all, length_all_set, length_all_snoc}
use Rattle.laws.proofs.Choices.{Open, laid_now}
use Rattle.laws.proofs.Rounds.{Layable, Kept, kept_port, kept_lay, lay_contacts, lay_contact, lay_reachable}
use Rattle.laws.proofs.FirstCycle.{kept_start, first_play}
use Rattle.laws.proofs.Counting.{laid_channels, rows_most, length_concat, length_laid}
use Rattle.fragment.specs.Rounds.{laid_by}
use Rattle.split.specs.Halves.{Divisible, Divided, Cyclic, Begun}
use Rattle.split.proofs.Laws.{path_of, lay_divisible, holds_lay, start_cyclic, holds_start}
use Rattle.step.specs.Stories.{entry_of, story_of}
use Rattle.step.specs.Rooms.{contacts_at, path_at, Passable, Standing, Chosen, Plan}
use Rattle.step.proofs.Writing.{story_more}

-- ---- how much there is

pub lands_few : (v : ℕ) (ends : List ℕ) (play : List Bool) → Layable v ends play → (s : State) → Kept ends play s → (length s.lands ≤ length play + 2) × (length_all s.lands ≤ 2 * length play)
unfolding laid_channels
lands_few v ends play G s K =
    let d = length_laid s.turns s.lands (length play) (K.long ∙ G.size2) K.sound in
    let m = rows_most (λ k. laid s.turns (2 * k)) (length play) in
    (omega (arith, K.ports.2, length_concat s.lands, d, m), omega (arith, length_concat s.lands, d, m))

module _ (v : ℕ) (ends : List ℕ) (play : List Bool) (G : Layable v ends play) (s : State) (t fs ns st : List ℕ) (n p : ℕ) (S : Standing v ends play s t fs ns st n p) where
  -- there is room for a path more
  pub place_room : p + 3 + v ≤ length st
  place_room = omega (arith, S.long, S.room, S.kept.number, lands_few v ends play G s S.kept)

  pub place_most : p ≤ length st
  place_most = omega (arith, place_room)

  -- count of lands and paths
  pub count_paths : n ≡ length s.paths + 2
  count_paths = S.holds.count ∙ S.kept.number

-- ---- the choice that the code names

abbrev choice_at : ℕ → List ℕ → List Bool → List Bool → List (List ℕ) → ℕ → Choice
choice_at v ends play lp ls k = choice_of v ends play lp ls (fragment_at v ends play lp k)

choice_name : (v : ℕ) (ends : List ℕ) (play lp : List Bool) (ls : List (List ℕ)) (k : ℕ) → (choice_at v ends play lp ls k).fragment.name ≡ k
unfolding choice_of fragment_at
choice_name v ends play lp ls k = refl

choice_fragment : (v : ℕ) (ends : List ℕ) (play lp : List Bool) (ls : List (List ℕ)) (k : ℕ) → (choice_at v ends play lp ls k).fragment ≡ fragment_at v ends play lp k
unfolding choice_of
choice_fragment v ends play lp ls k = refl

choice_contacts : (v : ℕ) (ends : List ℕ) (play lp : List Bool) (ls : List (List ℕ)) (k : ℕ) → (choice_at v ends play lp ls k).contacts ≡ contacts_at v ends play lp k
unfolding choice_of
choice_contacts v ends play lp ls k = refl

choice_path : (v : ℕ) (ends : List ℕ) (play lp : List Bool) (ls : List (List ℕ)) (k : ℕ) → path_of v ends play (choice_at v ends play lp ls k) ≡ path_at v ends play lp k
unfolding choice_of
choice_path v ends play lp ls k = refl

choice_fits : (v : ℕ) (ends : List ℕ) (play lp : List Bool) (ls : List (List ℕ)) (k : ℕ) → Open (choice_at v ends play lp ls k) → 1 ≤ length (admissible ends (contacts_at v ends play lp k) 0 ls)
unfolding choice_of
choice_fits v ends play lp ls k h = h

lay_paths : (v : ℕ) (ends : List ℕ) (play : List Bool) (s : State) (c : Choice) → length (lay v ends play s c).paths ≡ length s.paths + 1
unfolding lay
lay_paths v ends play s c = length-append s.paths _

module _ (v : ℕ) (ends : List ℕ) (play : List Bool) (G : Layable v ends play) (s : State) (c : Choice) (t fs ns st : List ℕ) (n p : ℕ) (lp : List Bool) (name land : ℕ)
    (C : Chosen v ends play s c t fs ns st n p lp name land) where
  abbrev K : Kept ends play s
  K = C.stands.kept

  abbrev k : ℕ
  k = C.sensible.0

  same_name : name ≡ k
  same_name = C.names ∙ ap (λ (e : Choice). e.fragment.name) C.sensible.1 ∙ choice_name v ends play (laid_now v ends s) s.lands k

  same_ports : lp ≡ laid_now v ends s
  same_ports = C.ports ∙ ap (laid_by v ends) C.stands.holds.turns

  chosen_choice : c ≡ choice_at v ends play lp s.lands name
  chosen_choice =
      C.sensible.1 ∙ ap (λ (m : List Bool). choice_at v ends play m s.lands k) (sym same_ports) ∙ ap (choice_at v ends play lp s.lands) (sym same_name)

  pub chosen_fragment : c.fragment ≡ fragment_at v ends play lp name
  chosen_fragment = ap (λ (e : Choice). e.fragment) chosen_choice ∙ choice_fragment v ends play lp s.lands name

  pub chosen_contacts : c.contacts ≡ contacts_at v ends play lp name
  chosen_contacts = ap (λ (e : Choice). e.contacts) chosen_choice ∙ choice_contacts v ends play lp s.lands name

  pub chosen_path : path_of v ends play c ≡ path_at v ends play lp name
  chosen_path = ap (path_of v ends play) chosen_choice ∙ choice_path v ends play lp s.lands name

  fit : 1 ≤ length (admissible ends (contacts_at v ends play (laid_now v ends s) k) 0 s.lands)
  fit = choice_fits v ends play (laid_now v ends s) s.lands k (subst Open C.sensible.1 C.opens)

  pub chosen_passable : Passable v ends play lp name
  chosen_passable =
      let cs = lay_contacts v ends play G s K k C.sensible.2 C.sensible.3 fit in
      subst (λ (m : List Bool). Passable v ends play m name) (sym same_ports)
      (subst (Passable v ends play (laid_now v ends s)) (sym same_name)
      (record {
        channel = T_is (at play k) C.sensible.3;
        two = cs.0;
        x = kept_port v ends play G s K _ (lay_contact v ends play G s K k C.sensible.2 C.sensible.3 fit _ cs.2).0;
        y = kept_port v ends play G s K _ (lay_contact v ends play G s K k C.sensible.2 C.sensible.3 fit _ cs.3).0;
        reached = lay_reachable v ends play G s K k C.sensible.2 C.sensible.3 fit;
      }))

  -- the numbers of the entry are small
  pub name_small : name < length play
  name_small = omega (arith, same_name, at_lt play k C.sensible.3)

  pub room_lands : (n < length fs) × (n < length ns)
  room_lands =
      let f = lands_few v ends play G (lay v ends play s c) (kept_lay v ends play G s K c C.sensible C.opens) in
      let m = (kept_lay v ends play G s K c C.sensible C.opens).number in
      let l = lay_paths v ends play s c in
      (omega (arith, f, m, l, C.stands.starts, count_paths v ends play G s t fs ns st n p C.stands), omega (arith, f, m, l, C.stands.sizes, count_paths v ends play G s t fs ns st n p C.stands))

  abbrev i : ℕ
  i = get_or c.fits 0 0

  divisible : Divisible ends t fs ns n i (get_or c.contacts 0 0) (get_or c.contacts 1 0) (path_of v ends play c)
  divisible = lay_divisible v ends play G s K t fs ns n C.stands.holds room_lands.0 room_lands.1 c C.sensible C.opens

  pub land_small : land < n
  land_small = omega (arith, C.lands, divisible.land)

  module _ (x y : ℕ) (q : List ℕ) (ex : x ≡ get_or (contacts_at v ends play lp name) 0 0) (ey : y ≡ get_or (contacts_at v ends play lp name) 1 0) (eq : q ≡ path_at v ends play lp name) where
    ex' : x ≡ get_or c.contacts 0 0
    ex' = ex ∙ ap (λ (l : List ℕ). get_or l 0 0) (sym chosen_contacts)

    ey' : y ≡ get_or c.contacts 1 0
    ey' = ey ∙ ap (λ (l : List ℕ). get_or l 1 0) (sym chosen_contacts)

    eq' : q ≡ path_of v ends play c
    eq' = eq ∙ sym chosen_path

    pub can_divide : Divisible ends t fs ns n land x y q
    can_divide = rw (C.lands, ex', ey', eq') divisible

    given_so : (t' fs' ns' : List ℕ) → Divided ends t fs ns n land x y q t' fs' ns' → Divided ends t fs ns n i (get_or c.contacts 0 0) (get_or c.contacts 1 0) (path_of v ends play c) t' fs' ns'
    given_so t' fs' ns' d =
        subst (λ (z : List ℕ). Divided ends t fs ns n i (get_or c.contacts 0 0) (get_or c.contacts 1 0) z t' fs' ns') eq'
        (subst (λ (z : ℕ). Divided ends t fs ns n i (get_or c.contacts 0 0) z q t' fs' ns') ey'
        (subst (λ (z : ℕ). Divided ends t fs ns n i z y q t' fs' ns') ex' (subst (λ (z : ℕ). Divided ends t fs ns n z x y q t' fs' ns') C.lands d)))

    told_so : story_of (first_cycle v ends play) s.paths ++ (name ∷ land ∷ length q ∷ q) ≡ story_of (first_cycle v ends play) (lay v ends play s c).paths
    unfolding lay entry_of
    told_so =
        rw (C.names, C.lands, eq')
        (sym (story_more (first_cycle v ends play) s.paths (record { fragment = c.fragment.name; land = i; darts = path_of v ends play c })))

    long_so : 2 * (p + 3 + length q) ≡ 2 + 6 * length (lay v ends play s c).paths + length_all (lay v ends play s c).lands
    unfolding lay split_lands
    long_so =
        let l = get_or s.lands i [] in
        let x₀ = get_or c.contacts 0 0 in
        let y₀ = get_or c.contacts 1 0 in
        let r = since ends x₀ l ++ before ends x₀ l in
        let a = before ends y₀ r in
        let b = since ends y₀ r in
        let z = path_of v ends play c in
        omega (
          arith,
          C.stands.long,
          ap length eq',
          length-append s.paths (record { fragment = c.fragment.name; land = i; darts = z } ∷ []),
          length_all_snoc (set s.lands i (listed (z ++ b))) (listed (back z ++ a)),
          length_all_set s.lands i (listed (z ++ b)) (omega (arith, divisible.land, C.stands.holds.count)),
          length_listed (z ++ b),
          length_listed (back z ++ a),
          length-append z b,
          length-append (back z) a,
          length_back z,
          length-append (since ends x₀ l) (before ends x₀ l),
          length-append (before ends x₀ l) (since ends x₀ l),
          ap length (before_since ends x₀ l),
          ap length (before_since ends y₀ r),
          length-append a b,
        )

    pub did_divide : (t' fs' ns' st' : List ℕ) → Divided ends t fs ns n land x y q t' fs' ns' → length st' ≡ length st
        → take (p + 3 + length q) st' ≡ story_of (first_cycle v ends play) s.paths ++ (name ∷ land ∷ length q ∷ q)
        → Standing v ends play (lay v ends play s c) t' fs' ns' st' (n + 1) (p + 3 + length q)
    did_divide t' fs' ns' st' D e w = record {
      kept = kept_lay v ends play G s K c C.sensible C.opens;
      holds = holds_lay v ends play s K t fs ns n C.stands.holds c t' fs' ns' (given_so t' fs' ns' D);
      starts = omega (arith, C.stands.starts, D.renewed.starts);
      sizes = omega (arith, C.stands.sizes, D.renewed.sizes);
      room = omega (arith, C.stands.room);
      told = w ∙ told_so;
      long = long_so;
    }

  -- there is room for the path
  pub end_room : p + 3 + length (path_at v ends play lp name) ≤ length st
  end_room =
      let e = long_so (get_or (contacts_at v ends play lp name) 0 0) (get_or (contacts_at v ends play lp name) 1 0) (path_at v ends play lp name) refl refl refl in
      let f = lands_few v ends play G (lay v ends play s c) (kept_lay v ends play G s K c C.sensible C.opens) in
      let m = (kept_lay v ends play G s K c C.sensible C.opens).number in
      omega (arith, e, f, m, C.stands.room)

  pub size_small : (length (path_at v ends play lp name) < 65536) × (name < 65536) × (land < 65536)
  size_small =
      let e = long_so (get_or (contacts_at v ends play lp name) 0 0) (get_or (contacts_at v ends play lp name) 1 0) (path_at v ends play lp name) refl refl refl in
      let f = lands_few v ends play G (lay v ends play s c) (kept_lay v ends play G s K c C.sensible C.opens) in
      let m = (kept_lay v ends play G s K c C.sensible C.opens).number in
      let l = lay_paths v ends play s c in
      let k₀ = C.stands.kept.number in
      let z = C.stands.long in
      let h = count_paths v ends play G s t fs ns st n p C.stands in
      (omega (arith, e, f, m, l, z, k₀, G.size2, G.few), omega (arith, name_small, G.size2, G.few), omega (arith, land_small, h, f, m, l, k₀, G.size2, G.few))

-- ---- the first cycle

module _ (v : ℕ) (ends : List ℕ) (play : List Bool) (L : Plan v ends play) where
  abbrev c₁ : ℕ
  c₁ = first_channel v ends play

  pub first_in : T (at play c₁)
  first_in = first_play v ends play L.some.0 L.some.1

  pub can_begin : (t fs ns l : List ℕ) → l ≡ cycle v ends play c₁ → length t ≡ length ends → length play + 2 ≤ length fs → length play + 2 ≤ length ns → Cyclic t fs ns l
  can_begin t fs ns l e h a b = rw e (start_cyclic v ends play L.layable L.wide c₁ first_in t fs ns h (omega arith) (omega arith))

  begun_told : (l : List ℕ) → l ≡ cycle v ends play c₁ → story_of l [] ≡ story_of (first_cycle v ends play) (start v ends play c₁).paths
  unfolding start first_cycle
  begun_told l e = ap (λ (q : List ℕ). story_of q []) e

  begun_long : (l : List ℕ) → l ≡ cycle v ends play c₁ → 2 * (length l + 1) ≡ 2 + 6 * length (start v ends play c₁).paths + length_all (start v ends play c₁).lands
  unfolding start length_all
  begun_long l e = omega (arith, ap length e, length_listed (cycle v ends play c₁), length_listed (back (cycle v ends play c₁)), length_back (cycle v ends play c₁))

  pub did_begin : (t fs ns l t' fs' ns' st : List ℕ) → l ≡ cycle v ends play c₁ → length t ≡ length ends → length play + 2 ≤ length fs → length play + 2 ≤ length ns → 4 * length play + v + 4 ≤ length st
      → Begun t fs ns l t' fs' ns' → take (length l + 1) st ≡ story_of l [] → Standing v ends play (start v ends play c₁) t' fs' ns' st 2 (length l + 1)
  did_begin t fs ns l t' fs' ns' st e h a b m B w = record {
    kept = kept_start v ends play L.layable L.wide c₁ first_in;
    holds = holds_start v ends play c₁ t fs ns t' fs' ns' h (subst (λ (q : List ℕ). Begun t fs ns q t' fs' ns') e B);
    starts = omega (arith, B.renewed.starts);
    sizes = omega (arith, B.renewed.sizes);
    room = m;
    told = w ∙ begun_told l e;
    long = begun_long l e;
  }

  begun_paths : length (start v ends play c₁).paths ≡ 0
  unfolding start
  begun_paths = refl

  -- the cycle has no more darts than there are channels
  pub cycle_short : length (cycle v ends play c₁) ≤ length play
  cycle_short = omega (arith, begun_long (cycle v ends play c₁) refl, lands_few v ends play L.layable (start v ends play c₁) (kept_start v ends play L.layable L.wide c₁ first_in), begun_paths)
