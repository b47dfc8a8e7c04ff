-- What is told of a laying, counted: the first cycle's darts and the paths' darts together are as many as the laid channels, and each number of a path is small.
--   darts_all ps             how many darts the paths ps have together
--   Drawn m e k q           a path of one dart at least, with darts below m, the name of a fragment below e and the number of a land below k
--   Lined ps e cyc s        of the state s that began with the cycle cyc: it is kept, its lands have twice the darts of cycle and paths, and each path is drawn
-- lined_lay, lined_start, lined_laid: a path keeps that, the first cycle begins it, and so every plate that is read has it, laid with at most n paths.
-- Assumes nothing.
use mathlib.Core.Path.{◌≡◌, sym, ap, subst}
use mathlib.Core.Bool.{Bool, true}
use mathlib.Core.List.{List, [], ◌∷◌, ◌++◌}
use Prim.Native.Nat.{ℕ, ◌+◌, ◌*◌, ◌<◌}
use native.Mathlib.Omega.{arith}
use lib.Dec.{T}
use lib.ListN.{length, get_or, set, length-append, length-set, length-replicate}
use Rattle.rules.specs.Lists.{at}
use Rattle.rules.specs.Terms.{listed}
use Rattle.rules.specs.Ways.{path}
use Rattle.rules.specs.Refusals.{given, Plate, read_plate}
use Rattle.rules.specs.Laying.{Path, State, back, before, since, Choice, split_lands, admissible, within, fragment_at, contacts_of, choice_of, lay, start, cycle, first_channel, first_cycle, laying, whole_plate, laid_out}
use Rattle.laws.proofs.Lists.{All, all_snoc, all_weaken}
use Rattle.laws.proofs.Sets.{at_lt}
use Rattle.laws.proofs.Runs.{length_back, length_listed}
use Rattle.laws.proofs.Split.{before_since}
use Rattle.laws.proofs.Euler.{length_all, length_all_set, length_all_snoc}
use Rattle.laws.proofs.Choices.{admitted, first_fit_lem, Open, laid_now, Sensible, rounds_keep}
use Rattle.laws.proofs.Reaches.{Wide}
use Rattle.laws.proofs.Verdicts.{wide}
use Rattle.laws.proofs.Rounds.{Layable, Kept, kept_lay, lay_head, lay_fresh}
use Rattle.laws.proofs.FirstCycle.{kept_start, first_play}
use Rattle.laws.proofs.Reading.{accepted, layable, channel_play}
use Rattle.land.specs.Walks.{Below}
use Rattle.land.proofs.Laws.{below_of}

unfoldable pub darts_all : List Path → ℕ
darts_all [] = 0
darts_all (q ∷ ps) = length q.darts + darts_all ps

pub record Drawn (m e k : ℕ) (q : Path) : Type 0 where
  pub fragment : q.fragment < e
  pub land : q.land < k
  pub some : 0 < length q.darts
  pub darts : Below m q.darts

pub record Lined (ps : List ℕ) (on : List Bool) (e : ℕ) (cyc : List ℕ) (s : State) : Type 0 where
  pub kept : Kept ps on s
  pub total : length_all s.lands ≡ 2 * (length cyc + darts_all s.paths)
  pub drawn : All (Drawn (length ps) e (length s.lands)) s.paths

-- ---- one path

darts_snoc : (ps : List Path) (q : Path) → darts_all (ps ++ (q ∷ [])) ≡ darts_all ps + length q.darts
unfolding darts_all
darts_snoc [] q = omega arith
darts_snoc (r ∷ ps) q = omega (arith, darts_snoc ps q)

-- the two stretches of a land have its darts
cut_length : (ps : List ℕ) (x y : ℕ) (l : List ℕ) → length l ≡ length (before ps y (since ps x l ++ before ps x l)) + length (since ps y (since ps x l ++ before ps x l))
cut_length ps x y l =
    let r = since ps x l ++ before ps x l in
    omega (arith, length-append (since ps x l) (before ps x l), length-append (before ps x l) (since ps x l), ap length (before_since ps x l), ap length (before_since ps y r), length-append (before ps y r) (since ps y r))

-- a split adds the path's darts twice
split_total : (ls : List (List ℕ)) (i : ℕ) (a b q : List ℕ) → i < length ls → length (get_or ls i []) ≡ length a + length b → length_all (split_lands i a b q ls) ≡ length_all ls + 2 * length q
unfolding split_lands
split_total ls i a b q h e =
    omega (
      arith,
      length_all_snoc (set ls i (listed (q ++ b))) (listed (back q ++ a)),
      length_all_set ls i (listed (q ++ b)) h,
      length_listed (q ++ b),
      length_listed (back q ++ a),
      length-append q b,
      length-append (back q) a,
      length_back q,
    )

module _ (np : ℕ) (ps : List ℕ) (on : List Bool) (s : State) (c : Choice) where
  -- the path that is laid
  abbrev way : List ℕ
  way = path np ps (within np ps on c.fragment) (at c.fragment.ports) (get_or c.contacts 0 0) (get_or c.contacts 1 0)

  lay_total : get_or c.fits 0 0 < length s.lands → length_all (lay np ps on s c).lands ≡ length_all s.lands + 2 * length way
  unfolding lay
  lay_total h =
      let l = get_or s.lands (get_or c.fits 0 0) [] in
      let x = get_or c.contacts 0 0 in
      let y = get_or c.contacts 1 0 in
      split_total s.lands (get_or c.fits 0 0) (before ps y (since ps x l ++ before ps x l)) (since ps y (since ps x l ++ before ps x l)) way h (cut_length ps x y l)

  lay_darts : darts_all (lay np ps on s c).paths ≡ darts_all s.paths + length way
  unfolding lay
  lay_darts = darts_snoc s.paths _

  lay_lands : length (lay np ps on s c).lands ≡ length s.lands + 1
  unfolding lay split_lands
  lay_lands = simp (length-append, length-set)

-- the path that is laid stands behind the others
lay_drawn : (np : ℕ) (ps : List ℕ) (on : List Bool) (s : State) (c : Choice) (m e k : ℕ) → All (Drawn m e k) s.paths → c.fragment.name < e → get_or c.fits 0 0 < k → 0 < length (way np ps on s c) → Below m (way np ps on s c)
    → All (Drawn m e k) (lay np ps on s c).paths
unfolding lay
lay_drawn np ps on s c m e k a f l g b = all_snoc (Drawn m e k) s.paths _ a (record { fragment = f; land = l; some = g; darts = b })

-- a sensible choice has the name of a channel
name_of : (np : ℕ) (ps : List ℕ) (on : List Bool) (s : State) (c : Choice) → Sensible np ps on s c → c.fragment.name < length on
unfolding choice_of fragment_at
name_of np ps on s c h = subst (λ (e : Choice). e.fragment.name < length on) (sym h.1) (at_lt on h.0 h.3)

-- what a sensible choice with an admissible land lays, and where
module _ (np : ℕ) (ps : List ℕ) (on : List Bool) (G : Layable np ps on) (s : State) (K : Kept ps on s) (c : Choice) (h : Sensible np ps on s c) (p : Open c) where
  fits_in : get_or c.fits 0 0 < length s.lands
  unfolding choice_of
  fits_in =
      subst (λ (e : Choice). Open e → get_or e.fits 0 0 < length s.lands) (sym h.1)
      (λ fit.
      let cs = contacts_of np ps on (laid_now np ps s) (fragment_at np ps on (laid_now np ps s) h.0) in
      (first_fit_lem ps cs s.lands (admissible ps cs 0 s.lands) (admitted ps cs 0 s.lands) fit).0) p

  way_some : 0 < length (way np ps on s c)
  unfolding choice_of
  way_some =
      subst (λ (e : Choice). Open e → 0 < length (way np ps on s e)) (sym h.1)
      (λ fit. let q = lay_head np ps on G s K h.0 h.2 h.3 fit in omega (arith, ap length q.1.1)) p

  way_below : Below (length ps) (way np ps on s c)
  unfolding choice_of
  way_below =
      subst (λ (e : Choice). Open e → Below (length ps) (way np ps on s e)) (sym h.1)
      (λ fit. below_of (length ps) _ (λ z n. omega (arith, (lay_fresh np ps on G s K h.0 h.2 h.3 fit z n).1, K.long))) p

pub lined_lay : (np : ℕ) (ps : List ℕ) (on : List Bool) → Layable np ps on → (cyc : List ℕ) (s : State) → Lined ps on (length on) cyc s
    → (c : Choice) → Sensible np ps on s c → Open c → Lined ps on (length on) cyc (lay np ps on s c)
lined_lay np ps on G cyc s L c h p = record {
  kept = kept_lay np ps on G s L.kept c h p;
  total = omega (arith, L.total, lay_total np ps on s c fit, lay_darts np ps on s c);
  drawn = lay_drawn np ps on s c _ _ _ (all_weaken _ _ (λ q d. record { fragment = d.fragment; land = omega (arith, d.land, lay_lands np ps on s c); some = d.some; darts = d.darts }) s.paths L.drawn)
      (name_of np ps on s c h) (omega (arith, fit, lay_lands np ps on s c)) (way_some np ps on G s L.kept c h p) (way_below np ps on G s L.kept c h p);
}
  where
    fit : get_or c.fits 0 0 < length s.lands
    fit = fits_in np ps on G s L.kept c h p

-- ---- the first cycle, and then the paths

start_total : (np : ℕ) (ps : List ℕ) (on : List Bool) (c : ℕ) → length_all (start np ps on c).lands ≡ 2 * (length (cycle np ps on c) + darts_all (start np ps on c).paths)
unfolding start length_all darts_all
start_total np ps on c = omega (arith, length_listed (cycle np ps on c), length_listed (back (cycle np ps on c)), length_back (cycle np ps on c))

start_drawn : (np : ℕ) (ps : List ℕ) (on : List Bool) (c : ℕ) → All (Drawn (length ps) (length on) (length (start np ps on c).lands)) (start np ps on c).paths
unfolding start
start_drawn np ps on c = tt

pub lined_start : (np : ℕ) (ps : List ℕ) (on : List Bool) → Layable np ps on → Wide ps on → (c : ℕ) → T (at on c) → Lined ps on (length on) (cycle np ps on c) (start np ps on c)
lined_start np ps on G many c o = record { kept = kept_start np ps on G many c o; total = start_total np ps on c; drawn = start_drawn np ps on c }

module _ (b : List ℕ) (p : Plate) (h : read_plate b ≡ given p) (n : ℕ) where
  pub lined_laid : Lined p.ends (whole_plate p) p.channels (first_cycle p.ports p.ends (whole_plate p)) (laid_out p n).state
  unfolding laid_out laying first_cycle
  lined_laid =
      let A = accepted b p h in
      let G = layable p A in
      subst (λ (e : ℕ). Lined p.ends (whole_plate p) e (first_cycle p.ports p.ends (whole_plate p)) (laid_out p n).state) (length-replicate p.channels true)
      (rounds_keep p.ports p.ends (whole_plate p) (Lined p.ends (whole_plate p) (length (whole_plate p)) (first_cycle p.ports p.ends (whole_plate p)))
      (lined_lay p.ports p.ends (whole_plate p) G (first_cycle p.ports p.ends (whole_plate p))) n (start p.ports p.ends (whole_plate p) (first_channel p.ports p.ends (whole_plate p)))
      (lined_start p.ports p.ends (whole_plate p) G (wide p A) (first_channel p.ports p.ends (whole_plate p)) (first_play p.ports p.ends (whole_plate p) 0 (channel_play p A))))
