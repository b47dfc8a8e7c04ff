-- How many bytes lines have, where every number printed is below 100,000.
--   most                  a number below it has at most five digits
--   degrees ends i n      how many darts leave the n ports from i on, together
-- below_map: lists of small numbers. fields_few, line_few: a field has at most 6 bytes. paths_few, lands_few, ports_few: the lines of paths, lands and ports. degrees_few: no dart leaves two ports.
-- Assumes nothing.
use mathlib.Core.Path.{◌≡◌, refl, ap}
use mathlib.Core.Bool.{Bool, true, false, cond}
use mathlib.Core.List.{List, [], ◌∷◌, ◌++◌, map}
use Prim.Native.Nat.{ℕ, zero, suc, ◌+◌, ◌*◌, ◌<◌, ◌≤◌}
use Prim.Native.String.{String}
use native.Mathlib.Omega.{arith}
use lib.Dec.{eqb}
use lib.ListN.{length, get_or, length-append, length-map}
use Rattle.rules.specs.Lists.{from, keep, concat, text}
use Rattle.rules.specs.Terms.{leaves, enters, reverse, darts_at, ring}
use Rattle.rules.specs.Refusals.{Plate}
use Rattle.rules.specs.Laying.{Path}
use Rattle.rules.specs.Listing.{decimal, fields, line, path_line, land_lines, port_line}
use Rattle.laws.proofs.Counts.{flag, is, count}
use Rattle.laws.proofs.Lists.{All, from_once, length_from}
use Rattle.laws.proofs.Euler.{length_all}
use Rattle.land.specs.Walks.{Below, BelowAll}
use Rattle.print.proofs.Digits.{decimal_few}
use Rattle.text.proofs.Laid.{darts_all}

abbrev pub most : ℕ
most = 100000

pub below_map : (n : ℕ) (f : ℕ → ℕ) → ((x : ℕ) → f x < n) → (l : List ℕ) → Below n (map f l)
below_map n f h [] = tt
below_map n f h (x ∷ l) = (h x, below_map n f h l)

-- ---- a line

pub fields_few : (ns : List ℕ) → Below most ns → length (fields ns) ≤ 6 * length ns
unfolding fields
fields_few [] b = omega arith
fields_few (n ∷ ns) b = omega (arith, length-append (decimal n) (fields ns), decimal_few n b.0, fields_few ns b.1)

pub line_few : (w : String) (ns : List ℕ) → Below most ns → length (line w ns) ≤ length (text w) + 6 * length ns + 1
unfolding line
line_few w ns b = omega (arith, length-append (text w ++ fields ns) (10 ∷ []), length-append (text w) (fields ns), fields_few ns b)

-- ---- the paths

module _ (p : Plate) (small : (d : ℕ) → get_or p.ends d 0 < most) where
  pub leaves_small : (d : ℕ) → leaves p.ends d < most
  unfolding leaves
  leaves_small d = small d

  pub enters_small : (d : ℕ) → enters p.ends d < most
  unfolding enters
  enters_small d = small (reverse d)

  path_few : (q : Path) → q.fragment < most → q.land < most → length (path_line p q) ≤ 23 + 6 * length q.darts
  unfolding path_line text
  path_few q f l =
      omega (
        arith,
        length-map q.darts (enters p.ends),
        line_few "path" (q.fragment ∷ q.land ∷ leaves p.ends (get_or q.darts 0 0) ∷ map (enters p.ends) q.darts)
            (f, (l, (leaves_small (get_or q.darts 0 0), below_map most (enters p.ends) enters_small q.darts))),
      )

  pub paths_few : (ps : List Path) → All (λ q. (q.fragment < most) × (q.land < most)) ps → length (concat (map (path_line p) ps)) ≤ 23 * length ps + 6 * darts_all ps
  unfolding concat darts_all
  paths_few [] a = omega arith
  paths_few (q ∷ ps) a = omega (arith, length-append (path_line p q) (concat (map (path_line p) ps)), path_few q a.0.0 a.0.1, paths_few ps a.1)

-- ---- the lands

pub lands_few : (i : ℕ) (ls : List (List ℕ)) → i + length ls < most → BelowAll most ls → length (land_lines i ls) ≤ 11 * length ls + 6 * length_all ls
unfolding land_lines length_all text
lands_few i [] h b = omega arith
lands_few i (l ∷ ls) h b = omega (arith, length-append (line "land" (i ∷ l)) (land_lines (suc i) ls), line_few "land" (i ∷ l) (omega arith, b.0), lands_few (suc i) ls (omega arith) b.1)

-- ---- the ports

unfoldable pub degrees : List ℕ → ℕ → ℕ → ℕ
degrees ends i zero = 0
degrees ends i (suc n) = length (darts_at ends i) + degrees ends (suc i) n

length_ring : (t : List ℕ) (n d : ℕ) → length (ring t n d) ≡ n
unfolding ring
length_ring t zero d = refl
length_ring t (suc n) d = ap suc (length_ring t n (get_or t d 0))

pub ports_few : (p : Plate) (t : List ℕ) (i n : ℕ) → i + n < most → ((q : ℕ) → Below most (ring t (length (darts_at p.ends q)) (get_or (darts_at p.ends q) 0 0)))
    → length (concat (map (port_line p t) (from i n))) ≤ 11 * n + 6 * degrees p.ends i n
unfolding concat from degrees port_line text
ports_few p t i zero h b = omega arith
ports_few p t i (suc n) h b =
    let ds = darts_at p.ends i in
    let r = ring t (length ds) (get_or ds 0 0) in
    omega (arith, length-append (line "port" (i ∷ r)) (concat (map (port_line p t) (from (suc i) n))), line_few "port" (i ∷ r) (omega arith, b i), length_ring t (length ds) (get_or ds 0 0), ports_few p t (suc i) n (omega arith) b)

-- of the darts ds, those that leave the n ports from i on
unfoldable spread : List ℕ → List ℕ → ℕ → ℕ → ℕ
spread ends ds i zero = 0
spread ends ds i (suc n) = length (keep (λ d. eqb (leaves ends d) i) ds) + spread ends ds (suc i) n

keep_length : (f : ℕ → Bool) (d : ℕ) (ds : List ℕ) → length (keep f (d ∷ ds)) ≡ flag (f d) + length (keep f ds)
unfolding keep
keep_length f d ds = go (f d)
  where
    go : (b : Bool) → length (cond b (d ∷ keep f ds) (keep f ds)) ≡ flag b + length (keep f ds)
    go true = omega arith
    go false = omega arith

spread_more : (ends : List ℕ) (d : ℕ) (ds : List ℕ) (i n : ℕ) → spread ends (d ∷ ds) i n ≡ spread ends ds i n + count (leaves ends d) (from i n)
unfolding spread count from
spread_more ends d ds i zero = omega arith
spread_more ends d ds i (suc n) = omega (arith, keep_length (λ e. eqb (leaves ends e) i) d ds, spread_more ends d ds (suc i) n, shown (leaves ends d) i)
  where
    shown : (x y : ℕ) → is x y ≡ flag (eqb x y)
    shown x y = refl

spread_none : (ends : List ℕ) (i n : ℕ) → spread ends [] i n ≡ 0
unfolding spread keep
spread_none ends i zero = refl
spread_none ends i (suc n) = omega (arith, spread_none ends (suc i) n)

spread_few : (ends ds : List ℕ) (i n : ℕ) → spread ends ds i n ≤ length ds
spread_few ends [] i n = omega (arith, spread_none ends i n)
spread_few ends (d ∷ ds) i n = omega (arith, spread_more ends d ds i n, spread_few ends ds i n, from_once (leaves ends d) i n)

spread_all : (ends : List ℕ) (i n : ℕ) → degrees ends i n ≡ spread ends (from 0 (length ends)) i n
unfolding degrees spread darts_at
spread_all ends i zero = refl
spread_all ends i (suc n) = omega (arith, spread_all ends (suc i) n)

pub degrees_few : (ends : List ℕ) (i n : ℕ) → degrees ends i n ≤ length ends
degrees_few ends i n = omega (arith, spread_all ends i n, spread_few ends (from 0 (length ends)) i n, length_from 0 (length ends))
