-- What a plate that is read guarantees (document 01, "Files" and "Refusal numbers" 1 to 11): it can be laid, and whatever the number of paths the turns and lands are sound.
--   plate_in b           the plate as the bytes b of a file give it
--   Accepted p          sizes within the limits, ends in range, no channel with equal ends, none repeated, every port linked to port 0, no cut port
-- read_plate_given: where a plate is given, it is the bytes', and every test passed. accepted: every plate that is given is accepted. layable: an accepted plate can be laid. kept_laid_out: what laying it with at most n paths leaves.
-- Assumes nothing.
use mathlib.Core.Path.{◌≡◌, subst, sym}
use mathlib.Core.Logic.{◌≢◌}
use mathlib.Core.Bool.{true, false}
use mathlib.Core.List.{List}
use Prim.Native.Nat.{ℕ, ◌≤◌, ◌*◌, ◌<◌}
use native.Mathlib.Omega.{arith}
use lib.Dec.{T}
use lib.ListN.{replicate, length, length-replicate, get_or-replicate}
use Rattle.rules.specs.Lists.{at}
use Rattle.rules.specs.Terms.{leaves, enters}
use Rattle.rules.specs.Files.{limits1, plate_file, ports_in, channels_in, ends_in}
use Rattle.rules.specs.Ways.{in_play}
use Rattle.rules.specs.Refusals.{given, passed, file_tests, piece_tests, Plate, read_plate}
use Rattle.rules.specs.Laying.{whole_plate, laid_out}
use Rattle.laws.proofs.Reaches.{Linked, Uncut, touched_in, firm_of, wide_of}
use Rattle.laws.proofs.Rounds.{Layable, Kept}
use Rattle.laws.proofs.FirstCycle.{kept_laying}
use Rattle.laws.proofs.Refusals.{given_inj, then_given, paired_once, Tested, file_tests_passed, length_ends, pieces_joined, pieces_uncut}

abbrev pub plate_in : List ℕ → Plate
plate_in b = record { ports = ports_in plate_file b; channels = channels_in plate_file b; ends = ends_in plate_file b }

pub read_plate_given : (b : List ℕ) (p : Plate) → read_plate b ≡ given p
    → (file_tests plate_file b ≡ passed) × (piece_tests (ports_in plate_file b) (ends_in plate_file b) (replicate (channels_in plate_file b) true) ≡ passed) × (plate_in b ≡ p)
unfolding read_plate
read_plate_given b p h =
    let t1 = then_given (file_tests plate_file b) _ p h in
    let t2 = then_given (piece_tests (ports_in plate_file b) (ends_in plate_file b) (replicate (channels_in plate_file b) true)) _ p t1.1 in
    (t1.0, t2.0, given_inj (plate_in b) p t2.1)

pub record Accepted (p : Plate) : Type 0 where
  pub ports : (limits1.least_ports ≤ p.ports) × (p.ports ≤ limits1.most_ports)
  pub channels : (limits1.least_channels ≤ p.channels) × (p.channels ≤ limits1.most_channels)
  pub size : length p.ends ≡ 2 * p.channels
  -- every dart leaves a port
  pub inn : (d : ℕ) → d < length p.ends → leaves p.ends d < p.ports
  -- no channel has equal ends
  pub loops : (d : ℕ) → d < length p.ends → leaves p.ends d ≢ enters p.ends d
  -- no two channels have the same ends: a dart is determined by the ports that it leaves and enters
  pub once : (d c : ℕ) → d < length p.ends → c < length p.ends → leaves p.ends d ≡ leaves p.ends c → enters p.ends d ≡ enters p.ends c → d ≡ c
  -- every port is linked to port 0
  pub joined : (q : ℕ) → q < p.ports → Linked p.ends (in_play (whole_plate p)) (λ r. true) q 0
  -- no port cuts
  pub uncut : Uncut p.ports p.ends (whole_plate p)

pub accepted : (b : List ℕ) (p : Plate) → read_plate b ≡ given p → Accepted p
accepted b p h =
    let g = read_plate_given b p h in
    subst Accepted g.2 (tested (file_tests_passed plate_file b g.0) g.1)
  where
    tested : Tested plate_file b → piece_tests (ports_in plate_file b) (ends_in plate_file b) (replicate (channels_in plate_file b) true) ≡ passed → Accepted (plate_in b)
    tested t k =
        let P = t.paired in
        let v = ports_in plate_file b in
        let ends = ends_in plate_file b in
        let e = channels_in plate_file b in
        let size : length ends ≡ 2 * e = length_ends plate_file b in
        let size2 : length ends ≡ 2 * length (replicate e true) = omega (arith, size, length-replicate e true) in
        let inn : (d : ℕ) → d < length ends → leaves ends d < v = (λ d l. P.inn d (omega (arith, size))) in
        record {
          ports = t.sized.ports;
          channels = t.sized.channels;
          size = size;
          inn = inn;
          loops = λ d l. P.loops d (omega (arith, size));
          once = λ d c l m. paired_once v ends e P d c (omega (arith, size)) (omega (arith, size));
          joined = pieces_joined v ends (replicate e true) k size2 inn;
          uncut = pieces_uncut v ends (replicate e true) k size2 inn (omega (arith, t.sized.ports.0));
        }

pub layable : (p : Plate) → Accepted p → Layable p.ports p.ends (whole_plate p)
layable p A = record {
  size2 = omega (arith, A.size, length-replicate p.channels true);
  few = omega (arith, A.size, A.channels.1);
  inn = A.inn;
  loops = A.loops;
  whole = firm_of p.ports p.ends (whole_plate p) (touched_in p.ports p.ends (whole_plate p) (omega (arith, A.size, length-replicate p.channels true)) A.inn) A.uncut;
}

-- channel 0 is in play
pub channel_play : (p : Plate) → Accepted p → T (at (whole_plate p) 0)
unfolding at
channel_play p A = subst T (sym (get_or-replicate p.channels 0 true false (omega (arith, A.channels.0)))) tt

-- Whatever the number of paths, the state left has all that rounds keep.
pub kept_laid_out : (b : List ℕ) (p : Plate) → read_plate b ≡ given p → (n : ℕ) → Kept p.ends (whole_plate p) (laid_out p n).state
unfolding laid_out
kept_laid_out b p h n =
    let A = accepted b p h in
    kept_laying p.ports p.ends (whole_plate p) (layable p A) (wide_of p.ports p.ends (whole_plate p) A.ports.0 A.uncut) 0 (channel_play p A) n
