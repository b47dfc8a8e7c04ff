-- The parts of a sheet (rules, `file_of`).
--   head_of v e      the bytes before the pairs: the mark, the version, V and E
-- Assumes nothing.
use Rattle.std.specs.Prelude.{List, ◌++◌, ℕ}
use Rattle.rules.specs.Lists.{bytes}
use Rattle.rules.specs.Files.{sheet_file}

unfoldable pub head_of : ℕ → ℕ → List ℕ
head_of v e = sheet_file.mark ++ bytes 2 sheet_file.version ++ bytes sheet_file.port_bytes v ++ bytes 2 e
