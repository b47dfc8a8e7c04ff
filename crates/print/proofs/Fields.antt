-- Fields are written one behind another.
-- fields_cons: the first field apart. fields_append: those of two lists. fields_one: a field is a blank and the digits. fields_room: the first fields are no longer than all of them.
-- gave_..: what a function that is handed over has given for the first numbers of a list; for one more; for all; where what it gives is known.
-- led_..: the same of one that leads from each number to the next. land_.., ring_..: where it is the rule of lands, or the turns.
-- below_at: what holds of every number of a list.
-- Assumes nothing.
use mathlib.Core.Path.{◌≡◌, refl, sym, ap, ◌∙◌, subst}
use mathlib.Core.List.{List, [], ◌∷◌, ◌++◌, map, append_assoc, append-nil, map-append}
use Prim.Native.Nat.{ℕ, zero, suc, ◌+◌, ◌-◌, ◌<◌, ◌≤◌}
use native.Mathlib.Nat.{not-suc-le-zero}
use native.Mathlib.Numerals.{add-one}
use native.Mathlib.Omega.{arith}
use lib.ListN.{length, get_or, take, drop, length-append, take-append-drop}
use lib.Seq.{take-suc}
use Rattle.rules.specs.Terms.{next, ring}
use Rattle.rules.specs.Listing.{decimal, fields}
use Rattle.land.specs.Walks.{land_from, Below, Darts}
use Rattle.print.specs.declared.Out.{Out}
use Rattle.print.specs.Puts.{Room, Wrote, Gave, Led}
use Rattle.print.proofs.Putting.{Cut, wrote_none, wrote_size, wrote_then, wrote_as}

pub fields_cons : (n : ℕ) (ns : List ℕ) → fields (n ∷ ns) ≡ fields (n ∷ []) ++ fields ns
unfolding fields
fields_cons n ns = ap (λ (d : List ℕ). 32 ∷ d ++ fields ns) (sym (append-nil (decimal n)))

pub fields_one : (n : ℕ) → Cut (fields (n ∷ [])) (32 ∷ []) (decimal n)
unfolding fields
fields_one n = record { is = ap (λ (d : List ℕ). 32 ∷ d) (append-nil (decimal n)) }

fields_none : fields [] ≡ []
unfolding fields
fields_none = refl

pub fields_append : (ns ms : List ℕ) → fields (ns ++ ms) ≡ fields ns ++ fields ms
fields_append [] ms = ap (λ (l : List ℕ). l ++ fields ms) (sym fields_none)
fields_append (n ∷ ns) ms =
    fields_cons n (ns ++ ms) ∙ ap (λ (l : List ℕ). fields (n ∷ []) ++ l) (fields_append ns ms)
    ∙ sym (append_assoc (fields (n ∷ [])) (fields ns) (fields ms)) ∙ ap (λ (l : List ℕ). l ++ fields ms) (sym (fields_cons n ns))

fields_room : (ns ms : List ℕ) → length (fields ns) ≤ length (fields (ns ++ ms))
fields_room ns ms = omega (arith, ap length (fields_append ns ms), length-append (fields ns) (fields ms))

pub below_at : (n : ℕ) (l : List ℕ) → Below n l → (i x : ℕ) → i < length l → get_or l i x < n
below_at n [] b i x h = absurd (not-suc-le-zero h)
below_at n (d ∷ l) b zero x h = b.0
below_at n (d ∷ l) b (suc i) x h = below_at n l b.1 i x (omega arith)

below_in : (n : ℕ) (l : List ℕ) (d : ℕ) (m : List ℕ) → Below n (l ++ (d ∷ []) ++ m) → d < n
below_in n [] d m b = b.0
below_in n (c ∷ l) d m b = below_in n l d m b.1

-- ---- one field more

-- the fields of ns are written, and then that of n
more : (ns : List ℕ) (n : ℕ) (a b c : Out) → Room (fields ns) a → Wrote (fields ns) a b → Wrote (fields (n ∷ [])) b c → Wrote (fields (ns ++ (n ∷ []))) a c
more ns n a b c lent p q = wrote_as (sym (fields_append ns (n ∷ []))) (wrote_then lent p q)

none : (o : Out) → Wrote (fields []) o o
none o = wrote_as (sym fields_none) (wrote_none o)

-- there is room for it
next_room : (ns : List ℕ) (n : ℕ) (a b : Out) → Wrote (fields ns) a b → Room (fields (ns ++ (n ∷ []))) a → Room (fields (n ∷ [])) b
next_room ns n a b p h =
    let lent : Room (fields ns) a = omega (arith, h, fields_room ns (n ∷ [])) in
    omega (arith, p.put.stop, wrote_size lent p, h, ap length (fields_append ns (n ∷ [])), length-append (fields ns) (fields (n ∷ [])))

-- ---- what a function has given for each number of a list

gave_more : (post : ℕ → ℕ → Type 0) (ds ns : List ℕ) (d n : ℕ) → Gave post ds ns → post d n → Gave post (ds ++ (d ∷ [])) (ns ++ (n ∷ []))
gave_more post [] [] d n g p = (p, tt)
gave_more post [] (m ∷ ns) d n g p = absurd g
gave_more post (c ∷ ds) [] d n g p = absurd g
gave_more post (c ∷ ds) (m ∷ ns) d n g p = (g.0, gave_more post ds ns d n g.1 p)

-- where it is known what it gives
gave_known : (post : ℕ → ℕ → Type 0) (f : ℕ → ℕ) → ((d n : ℕ) → post d n → n ≡ f d) → (ds ns : List ℕ) → Gave post ds ns → ns ≡ map f ds
gave_known post f k [] [] g = refl
gave_known post f k [] (n ∷ ns) g = absurd g
gave_known post f k (d ∷ ds) [] g = absurd g
gave_known post f k (d ∷ ds) (n ∷ ns) g = ap (λ (m : ℕ). m ∷ ns) (k d n g.0) ∙ ap (λ (l : List ℕ). f d ∷ l) (gave_known post f k ds ns g.1)

-- there is room for what it gives for the first i
pub gave_room : (post : ℕ → ℕ → Type 0) (f : ℕ → ℕ) → ((d n : ℕ) → post d n → n ≡ f d) → (ds : List ℕ) (o : Out) → Room (fields (map f ds)) o
    → (i : ℕ) (ns : List ℕ) → Gave post (take i ds) ns → Room (fields ns) o
gave_room post f k ds o h i ns g =
    let e : map f ds ≡ ns ++ map f (drop i ds) = ap (map f) (sym (take-append-drop i ds)) ∙ map-append f (take i ds) (drop i ds) ∙ ap (λ (l : List ℕ). l ++ map f (drop i ds)) (sym (gave_known post f k (take i ds) ns g)) in
    omega (arith, h, ap (λ (l : List ℕ). length (fields l)) e, fields_room ns (map f (drop i ds)))

pub gave_all : (post : ℕ → ℕ → Type 0) (f : ℕ → ℕ) → ((d n : ℕ) → post d n → n ≡ f d) → (ds : List ℕ) (o n : Out) → (ns : List ℕ) × Gave post ds ns × Wrote (fields ns) o n → Wrote (fields (map f ds)) o n
gave_all post f k ds o n p = wrote_as (ap fields (gave_known post f k ds p.0 p.1)) p.2

-- i of the numbers ds are passed: the fields of what it gave for them are written
pub record Giving (post : ℕ → ℕ → Type 0) (ds : List ℕ) (i : ℕ) (o n : Out) : Type 0 where
  pub given : List ℕ
  pub gave : Gave post (take i ds) given
  pub wrote : Wrote (fields given) o n

pub giving_start : (post : ℕ → ℕ → Type 0) (ds : List ℕ) (o : Out) → Giving post ds 0 o o
giving_start post ds o = record { given = []; gave = tt; wrote = none o }

module _ (post : ℕ → ℕ → Type 0) (ds : List ℕ) (i : ℕ) (a b : Out) (room : (i : ℕ) (ns : List ℕ) → Gave post (take i ds) ns → Room (fields ns) a) (h : i < length ds) (g : Giving post ds i a b) (n : ℕ) (p : post (get_or ds i 0) n) where
  one : Gave post (take (i + 1) ds) (g.given ++ (n ∷ []))
  one = subst (λ (l : List ℕ). Gave post l (g.given ++ (n ∷ []))) (sym (ap (λ (k : ℕ). take k ds) (add-one i) ∙ take-suc ds i 0 h)) (gave_more post (take i ds) g.given (get_or ds i 0) n g.gave p)

  pub giving_room : Room (fields (n ∷ [])) b
  giving_room = next_room g.given n a b g.wrote (room (i + 1) (g.given ++ (n ∷ [])) one)

  pub giving_step : (c : Out) → Wrote (fields (n ∷ [])) b c → Giving post ds (i + 1) a c
  giving_step c q = record { given = g.given ++ (n ∷ []); gave = one; wrote = more g.given n a b c (room i g.given g.gave) g.wrote q }

-- ---- where a function has led

led_more : (post : ℕ → ℕ → Type 0) (d : ℕ) (ds : List ℕ) (e e' : ℕ) → Led post d ds e → post e e' → Led post d (ds ++ (e ∷ [])) e'
led_more post d [] e e' l p = (l, (e', p, refl))
led_more post d (x ∷ ds) e e' l p = (l.0, (l.1.0, l.1.1, led_more post l.1.0 ds e e' l.1.2 p))

pub record Leading (post : ℕ → ℕ → Type 0) (d k e : ℕ) (o n : Out) : Type 0 where
  pub passed : List ℕ
  pub led : Led post d passed e
  pub number : length passed ≡ k
  pub wrote : Wrote (fields passed) o n

pub leading_start : (post : ℕ → ℕ → Type 0) (d : ℕ) (o : Out) → Leading post d 0 d o o
leading_start post d o = record { passed = []; led = refl; number = refl; wrote = none o }

module _ (post : ℕ → ℕ → Type 0) (d k e : ℕ) (a b : Out) (n : ℕ) (room : (ds : List ℕ) (e : ℕ) → Led post d ds e → length ds < n → Room (fields (ds ++ (e ∷ []))) a) (h : k < n) (g : Leading post d k e a b) where
  less : length g.passed < n
  less = omega (arith, g.number)

  pub leading_pre : (pre : ℕ → Type 0) → ((ds : List ℕ) (e : ℕ) → Led post d ds e → length ds < n → pre e) → pre e
  leading_pre pre f = f g.passed e g.led less

  pub leading_room : Room (fields (e ∷ [])) b
  leading_room = next_room g.passed e a b g.wrote (room g.passed e g.led less)

  pub leading_step : (e' : ℕ) → post e e' → (c : Out) → Wrote (fields (e ∷ [])) b c → Leading post d (k + 1) e' a c
  leading_step e' p c q =
      let lent : Room (fields g.passed) a = omega (arith, fields_room g.passed (e ∷ []), room g.passed e g.led less) in
      record {
        passed = g.passed ++ (e ∷ []);
        led = led_more post d g.passed e e' g.led p;
        number = length-append g.passed (e ∷ []) ∙ ap (λ (m : ℕ). m + 1) g.number;
        wrote = more g.passed e a b c lent g.wrote q;
      }

-- where it is known where it leads: the n numbers from d on are W n d
module _ (post : ℕ → ℕ → Type 0) (f : ℕ → ℕ) (W : ℕ → ℕ → List ℕ) (zeroth : (d : ℕ) → W 0 d ≡ []) (onward : (n d : ℕ) → W (suc n) d ≡ d ∷ W n (f d)) (known : (d e : ℕ) → post d e → e ≡ f d) where
  led_walk : (n d : ℕ) (ds : List ℕ) (e : ℕ) → Led post d ds e → length ds ≤ n → W n d ≡ ds ++ W (n - length ds) e
  led_walk n d [] e l h = ap (λ (m : ℕ). W m d) same ∙ ap (W (n - 0)) l
    where
      same : n ≡ n - 0
      same = omega arith
  led_walk zero d (x ∷ ds) e l h = absurd (not-suc-le-zero h)
  led_walk (suc n) d (x ∷ ds) e l h =
      onward n d ∙ ap (λ (y : ℕ). d ∷ W n y) (ap f l.0 ∙ sym (known x l.1.0 l.1.1)) ∙ ap (λ (y : ℕ). y ∷ W n l.1.0) l.0
      ∙ ap (λ (m : List ℕ). x ∷ m) (led_walk n l.1.0 ds e l.1.2 (omega arith)) ∙ ap (λ (m : ℕ). x ∷ ds ++ W m e) same
    where
      same : n - length ds ≡ suc n - length (x ∷ ds)
      same = omega arith

  module _ (n d : ℕ) where
    -- one more is of the walk
    led_one : (ds : List ℕ) (e : ℕ) → Led post d ds e → length ds < n → W n d ≡ ds ++ (e ∷ []) ++ W (n - (length ds + 1)) (f e)
    led_one ds e l h = led_walk n d ds e l (omega arith) ∙ ap (λ (m : ℕ). ds ++ W m e) fuel ∙ ap (λ (w : List ℕ). ds ++ w) (onward (n - (length ds + 1)) e) ∙ sym (append_assoc ds (e ∷ []) (W (n - (length ds + 1)) (f e)))
      where
        fuel : n - length ds ≡ suc (n - (length ds + 1))
        fuel = omega arith

    pub led_room : (o : Out) → Room (fields (W n d)) o → (ds : List ℕ) (e : ℕ) → Led post d ds e → length ds < n → Room (fields (ds ++ (e ∷ []))) o
    led_room o h ds e l k = omega (arith, h, ap (λ (w : List ℕ). length (fields w)) (led_one ds e l k), fields_room (ds ++ (e ∷ [])) (W (n - (length ds + 1)) (f e)))

    pub led_below : (m : ℕ) → Below m (W n d) → (ds : List ℕ) (e : ℕ) → Led post d ds e → length ds < n → e < m
    led_below m b ds e l h = below_in m ds e (W (n - (length ds + 1)) (f e)) (subst (Below m) (led_one ds e l h) b)

    pub led_all : (a b : Out) → (ds : List ℕ) × (e : ℕ) × Led post d ds e × (length ds ≡ n) × Wrote (fields ds) a b → Wrote (fields (W n d)) a b
    led_all a b p = wrote_as (ap fields (sym all)) p.4
      where
        rest : n - length p.0 ≡ 0
        rest = omega (arith, p.3)

        all : W n d ≡ p.0
        all = led_walk n d p.0 p.1 p.2 (omega (arith, p.3)) ∙ ap (λ (m : ℕ). p.0 ++ W m p.1) rest ∙ ap (λ (w : List ℕ). p.0 ++ w) (zeroth p.1) ∙ append-nil p.0

-- the rule of lands, and the turns

land_zero : (t : List ℕ) (d : ℕ) → land_from t 0 d ≡ []
unfolding land_from
land_zero t d = refl

land_on : (t : List ℕ) (n d : ℕ) → land_from t (suc n) d ≡ d ∷ land_from t n (next t d)
unfolding land_from
land_on t n d = refl

ring_zero : (t : List ℕ) (d : ℕ) → ring t 0 d ≡ []
unfolding ring
ring_zero t d = refl

ring_on : (t : List ℕ) (n d : ℕ) → ring t (suc n) d ≡ d ∷ ring t n (get_or t d 0)
unfolding ring
ring_on t n d = refl

module _ (post : ℕ → ℕ → Type 0) (t : List ℕ) (known : (d e : ℕ) → post d e → e ≡ next t d) (n d : ℕ) where
  pub land_room : (o : Out) → Room (fields (land_from t n d)) o → (ds : List ℕ) (e : ℕ) → Led post d ds e → length ds < n → Room (fields (ds ++ (e ∷ []))) o
  land_room = led_room post (next t) (λ n d. land_from t n d) (land_zero t) (land_on t) known n d

  pub land_below : Darts t (land_from t n d) → (ds : List ℕ) (e : ℕ) → Led post d ds e → length ds < n → Darts t (e ∷ [])
  land_below w ds e l h = record { even = w.even; few = w.few; inside = (led_below post (next t) (λ n d. land_from t n d) (land_zero t) (land_on t) known n d (length t) w.inside ds e l h, tt) }

  pub land_all : (a b : Out) → (ds : List ℕ) × (e : ℕ) × Led post d ds e × (length ds ≡ n) × Wrote (fields ds) a b → Wrote (fields (land_from t n d)) a b
  land_all = led_all post (next t) (λ n d. land_from t n d) (land_zero t) (land_on t) known n d

module _ (post : ℕ → ℕ → Type 0) (t : List ℕ) (known : (d e : ℕ) → post d e → e ≡ get_or t d 0) (n d : ℕ) where
  pub ring_room : (o : Out) → Room (fields (ring t n d)) o → (ds : List ℕ) (e : ℕ) → Led post d ds e → length ds < n → Room (fields (ds ++ (e ∷ []))) o
  ring_room = led_room post (λ d. get_or t d 0) (λ n d. ring t n d) (ring_zero t) (ring_on t) known n d

  pub ring_below : Below (length t) (ring t n d) → (ds : List ℕ) (e : ℕ) → Led post d ds e → length ds < n → e < length t
  ring_below = led_below post (λ d. get_or t d 0) (λ n d. ring t n d) (ring_zero t) (ring_on t) known n d (length t)

  pub ring_all : (a b : Out) → (ds : List ℕ) × (e : ℕ) × Led post d ds e × (length ds ≡ n) × Wrote (fields ds) a b → Wrote (fields (ring t n d)) a b
  ring_all = led_all post (λ d. get_or t d 0) (λ n d. ring t n d) (ring_zero t) (ring_on t) known n d
