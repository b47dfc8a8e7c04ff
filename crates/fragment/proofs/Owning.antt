-- The channels of a fragment as flags, one for each channel, and its ports as flags, one for each port.
--   own              channel j is one of the fragment that k names and that has the ports `ports`
--   inner p          port p is marked, and not laid
-- own_out, own_first, own_second: the tests for one channel. inner_is: the ports that are marked and not laid, where the fragment has spread over the laid ports. fragment_is, own_as: the fragment, put together.
-- Assumes nothing.
use mathlib.Core.Path.{◌≡◌, sym, ap, ◌∙◌, subst, fun_ext}
use mathlib.Core.Logic.{◌≢◌, ◌⊎◌, ⊎_elim}
use mathlib.Core.Bool.{Bool, true, false, not, ◌&&◌, ◌||◌}
use mathlib.Core.List.{List, map}
use Prim.Native.Nat.{ℕ, ◌+◌, ◌*◌}
use lib.Dec.{T, T_not}
use lib.ListN.{length, get_or}
use Rattle.rules.specs.Lists.{from, at}
use Rattle.rules.specs.Terms.{leaves, enters}
use Rattle.rules.specs.Laying.{Fragment, within, fragment_at}
use Rattle.laws.proofs.Tests.{eqb_yes, eqb_no, and_T, T_and, or_T, T_or₂, same_flag}
use Rattle.laws.proofs.Runs.{channel_of}
use Rattle.laws.proofs.Fragments.{inside, length_inside, inside_unlaid}
use Rattle.fragment.specs.Fragments.{Spread}
use Rattle.fragment.proofs.Spreading.{reverse_first}
use Rattle.fragment.proofs.Rising.{map_at}
use Rattle.fragment.proofs.Marking.{joined_at}

-- ---- one channel

module _ (v : ℕ) (ends : List ℕ) (play : List Bool) (k : ℕ) (ports : List Bool) (j : ℕ) where
  abbrev own : Bool
  own = within v ends play (record { name = k; ports = ports }) (2 * j)

  pub own_out : at play j ≡ false → own ≡ false
  unfolding within
  own_out o = rw (channel_of j, o)

  -- x tells whether j is the name, or its first end is inside
  module _ (o : at play j ≡ true) (x : Bool) (told : ((j ≡ k) × (x ≡ true)) ⊎ ((j ≢ k) × (x ≡ at ports (get_or ends (2 * j) 0)))) where
    own_either : own ≡ (x || at ports (get_or ends (2 * j + 1) 0))
    unfolding within leaves enters
    own_either =
        ⊎_elim (λ w. rw (channel_of j, o, eqb_yes j k w.0, w.1)) (λ w. rw (channel_of j, o, eqb_no j k w.0, w.1, reverse_first j)) told

    pub own_first : x ≡ true → own ≡ true
    own_first e = own_either ∙ rw e

    pub own_second : x ≡ false → own ≡ at ports (get_or ends (2 * j + 1) 0)
    own_second e = own_either ∙ rw e

-- ---- all ports

module _ (v : ℕ) (ends : List ℕ) (play lp : List Bool) (lpv : length lp ≡ v) (k : ℕ) (marks : List Bool) (queue : List ℕ) (n : ℕ) (s : Spread v ends play lp k lp marks queue n) where
  abbrev inner : ℕ → Bool
  inner p = at marks p && not (at lp p)

  marked_is : (p : ℕ) → at marks p ≡ (at lp p || at (inside v ends play lp k) p)
  unfolding fragment_at
  marked_is p = ap (λ (m : List Bool). at m p) s.marked ∙ joined_at lp (inside v ends play lp k) (length_inside v ends play lp k ∙ sym lpv) p

  inner_at : (p : ℕ) → inner p ≡ at (inside v ends play lp k) p
  inner_at p =
      same_flag (inner p) (at (inside v ends play lp k) p)
      (λ t.
      let w = and_T (at marks p) (not (at lp p)) t in
      ⊎_elim (λ l. absurd (T_not (at lp p) w.1 l)) (λ i. i) (or_T (at lp p) (at (inside v ends play lp k) p) (subst T (marked_is p) w.0)))
      (λ t. T_and (at marks p) (not (at lp p)) (subst T (sym (marked_is p)) (T_or₂ (at lp p) (at (inside v ends play lp k) p) t)) (inside_unlaid v ends play lp k p t))

  pub inner_is : map inner (from 0 v) ≡ (fragment_at v ends play lp k).ports
  unfolding fragment_at
  inner_is = ap (λ (f : ℕ → Bool). map f (from 0 v)) (fun_ext inner_at) ∙ flags (inside v ends play lp k) (length_inside v ends play lp k)
    where
      flags : (r : List Bool) → length r ≡ v → map (at r) (from 0 v) ≡ r
      flags r e = ap (λ (m : ℕ). map (at r) (from 0 m)) (sym e) ∙ map_at r

-- the fragment, put together of its name and its ports
pub fragment_is : (v : ℕ) (ends : List ℕ) (play lp : List Bool) (k : ℕ) (ports : List Bool) → ports ≡ (fragment_at v ends play lp k).ports → record { name = k; ports = ports } ≡ fragment_at v ends play lp k
unfolding fragment_at
fragment_is v ends play lp k ports e = ap (λ (r : List Bool). record { name = k; ports = r }) e

-- its channels
pub own_as : (v : ℕ) (ends : List ℕ) (play : List Bool) (f g : Fragment) (flags : List Bool) → f ≡ g
    → flags ≡ map (λ j. within v ends play f (2 * j)) (from 0 (length play)) → flags ≡ map (λ j. within v ends play g (2 * j)) (from 0 (length play))
own_as v ends play f g flags q h = h ∙ ap (λ (x : Fragment). map (λ j. within v ends play x (2 * j)) (from 0 (length play))) q
