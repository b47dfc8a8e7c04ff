-- What a caller reads off a flood.
-- length_joined, at_joined: marks joined are as many; a port has a mark afterwards where it had one or is around p. around_as: only which ports have a mark counts, so that the ports around p are those reached through the ports without one.
-- around_none, around_only: with no mark, and with the mark of port c alone, they are those of refusals 10 and 11.
-- Assumes nothing.
use mathlib.Core.Path.{◌≡◌, sym, ap, ◌∙◌, fun_ext}
use mathlib.Core.Logic.{⊎_elim}
use mathlib.Core.Bool.{Bool, true, false, not, ◌||◌}
use mathlib.Core.List.{List}
use Prim.Native.Nat.{ℕ, ◌<◌}
use native.Mathlib.Nat.{zero-add}
use lib.Dec.{eqb}
use lib.ListN.{length, replicate, length-replicate}
use lib.Seq.{get_or-set_other}
use Rattle.rules.specs.Lists.{at}
use Rattle.rules.specs.Ways.{only, reached}
use Rattle.laws.proofs.Tests.{T_is, eqb_yes, eqb_no}
use Rattle.laws.proofs.Counts.{is_cases, is_apart}
use Rattle.laws.proofs.Sets.{only_self, length_only}
use Rattle.reach.specs.Floods.{joined, around}
use Rattle.laws.proofs.Seeking.{get_or_map_from, length_map_from}
use Rattle.laws.proofs.Lists.{replicate_at}

pub length_joined : (s r : List Bool) → length (joined s r) ≡ length s
unfolding joined
length_joined s r = length_map_from (λ p. at s p || at r p) 0 (length s)

pub at_joined : (s r : List Bool) (z : ℕ) → z < length s → at (joined s r) z ≡ (at s z || at r z)
unfolding joined at
at_joined s r z h = get_or_map_from (λ q. at s q || at r q) 0 (length s) z false h ∙ ap (λ (q : ℕ). at s q || at r q) (zero-add z)

-- ---- which ports have a mark

pub around_as : (ends : List ℕ) (play marks : List Bool) (p : ℕ) (free : ℕ → Bool) → ((q : ℕ) → not (at marks q) ≡ free q) → around ends play marks p ≡ reached (length marks) ends play free p
around_as ends play marks p free h = ap (λ (f : ℕ → Bool). reached (length marks) ends play f p) (fun_ext h)

pub none_at : (v q : ℕ) → at (replicate v false) q ≡ false
unfolding at
none_at v q = replicate_at v q false

pub around_none : (v : ℕ) (ends : List ℕ) (play : List Bool) (p : ℕ) → around ends play (replicate v false) p ≡ reached v ends play (λ q. true) p
around_none v ends play p =
    around_as ends play (replicate v false) p (λ q. true) (λ q. ap not (none_at v q)) ∙ ap (λ (n : ℕ). reached n ends play (λ q. true) p) (length-replicate v false)

pub only_at : (v c q : ℕ) → c < v → at (only v c) q ≡ eqb q c
unfolding at
only_at v c q h =
    ⊎_elim (λ e. ap (at (only v c)) e ∙ T_is (at (only v c) c) (only_self v c h) ∙ sym (eqb_yes q c e))
    (λ m. get_or-set_other (replicate v false) c q true false (is_apart q c m) ∙ none_at v q ∙ sym (eqb_no q c (is_apart q c m))) (is_cases q c)

pub around_only : (v c : ℕ) (ends : List ℕ) (play : List Bool) (p : ℕ) → c < v → around ends play (only v c) p ≡ reached v ends play (λ q. not (eqb q c)) p
around_only v c ends play p h =
    around_as ends play (only v c) p (λ q. not (eqb q c)) (λ q. ap not (only_at v c q h)) ∙ ap (λ (n : ℕ). reached n ends play (λ q. not (eqb q c)) p) (length_only v c)
