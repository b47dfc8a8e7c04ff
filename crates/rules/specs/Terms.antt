-- Document 01, "Terms". A plate's pairs are one list of ports, `ends`: at d stands the port that dart d leaves. The turns are one list, t: at d stands the turn of dart d.
--   reverse d             the other dart of d's channel
--   leaves ends d         the port that dart d leaves
--   enters ends d         the port that dart d enters
--   missing               the mark of a missing turn
--   laid t d              dart d has a turn
--   next t d              the dart with which a land continues after d
--   walk t n a d          the land of dart a from its dart d on, n darts at most
--   lands_of t             every land, in order of smallest dart
--   visits ends l p       land l visits port p
--   listed l              the cycle l, listed from its smallest dart
--   darts_at ends p        the darts that leave port p, rising
--   onward t n d          the dart that n turns lead to from d
--   ring t n d            n darts clockwise from d on
-- Assumes nothing.
use Rattle.std.specs.Prelude.{Bool, cond, not, ◌||◌, List, [], ◌∷◌, ◌++◌, ℕ, zero, suc, ◌+◌, ◌-◌, ◌*◌, ◌%◌, eqb, ltb, length, get_or}
use Rattle.rules.specs.Lists.{from, any, keep, has}

-- ---- Ports 0..V−1. Channels 0..E−1 in file order. Channel k gives dart 2k from its first end to its second, and dart 2k+1 back.

unfoldable pub leaves : List ℕ → ℕ → ℕ
leaves ends d = get_or ends d 0

-- Each is the other's reverse.
unfoldable pub reverse : ℕ → ℕ
reverse d = d + 1 - 2 * (d % 2)

unfoldable pub enters : List ℕ → ℕ → ℕ
enters ends d = get_or ends (reverse d) 0

-- ---- The turn of a dart is the next dart, clockwise, that leaves the same port.

-- A missing turn is 65,535.
abbrev pub missing : ℕ
missing = 65535

-- a turn that is not missing
unfoldable pub there : ℕ → Bool
there d = not (eqb d missing)

unfoldable pub laid : List ℕ → ℕ → Bool
laid t d = there (get_or t d missing)

-- After dart d a land continues with the turn of d's reverse.
unfoldable pub next : List ℕ → ℕ → ℕ
next t d = get_or t (reverse d) 0

-- A land is a cycle of that rule.
unfoldable pub walk : List ℕ → ℕ → ℕ → ℕ → List ℕ
walk t zero a d = []
walk t (suc n) a d =
    let r = walk t n a (next t d) in
    d ∷ cond (eqb (next t d) a) [] r

-- It is listed from its smallest dart.
unfoldable pub least : ℕ → List ℕ → ℕ
least m [] = m
least m (d ∷ l) = least (cond (ltb d m) d m) l

unfoldable pub turn_to : ℕ → List ℕ → List ℕ → List ℕ
turn_to m l [] = l
turn_to m l (d ∷ r) = cond (eqb d m) (d ∷ r ++ l) (turn_to m (l ++ (d ∷ [])) r)

unfoldable pub listed : List ℕ → List ℕ
listed l = turn_to (least missing l) [] l

-- It visits the ports its darts leave.
unfoldable pub visits : List ℕ → List ℕ → ℕ → Bool
visits ends l p = any (λ d. eqb (leaves ends d) p) l

-- ---- every land, in order of smallest dart: of the darts ds, rising, each that is laid and in no land so far begins one

unfoldable pub gather : List ℕ → List ℕ → List (List ℕ) → List (List ℕ)
gather t [] ls = ls
gather t (d ∷ ds) ls =
    let new : List (List ℕ) = ls ++ (walk t (length t) d d ∷ []) in
    gather t ds (cond (not (laid t d) || any (λ l. has l d) ls) ls new)

unfoldable pub lands_of : List ℕ → List (List ℕ)
lands_of t = gather t (from 0 (length t)) []

-- ---- the darts of a port, and the ring that they form

unfoldable pub darts_at : List ℕ → ℕ → List ℕ
darts_at ends p = keep (λ d. eqb (leaves ends d) p) (from 0 (length ends))

unfoldable pub onward : List ℕ → ℕ → ℕ → ℕ
onward t zero d = d
onward t (suc n) d = onward t n (get_or t d 0)

unfoldable pub ring : List ℕ → ℕ → ℕ → List ℕ
ring t zero d = []
ring t (suc n) d = d ∷ ring t n (get_or t d 0)
