-- The record of a sheet before anything is stored in it.
use Rattle.std.specs.Prelude.{ℕ, replicate}
use Rattle.sheet.specs.Limits.{catalogue_limit, option_limit, ordering_limit}
use Rattle.sheet.specs.declared.sheet.Sheet.{Sheet}

-- a record with these counts and nothing in it
abbrev pub sized : ℕ → ℕ → ℕ → Sheet
sized c o r = record {
  catalogue_lines = c;
  option_count = o;
  ordering_count = r;
  letters = replicate catalogue_limit 0;
  befores = replicate catalogue_limit 0;
  afters = replicate catalogue_limit 0;
  numbers = replicate option_limit 0;
  weights = replicate option_limit 0;
  firsts = replicate ordering_limit 0;
  seconds = replicate ordering_limit 0;
  ordering_weights = replicate ordering_limit 0;
}

-- the all-zero record
abbrev pub empty_sheet : Sheet
empty_sheet = sized 0 0 0
