-- Limits that belong to the sheet: 8,192 bytes; 512 catalogue lines; 32 F lines; 64 U lines; option numbers 1 to 250;
-- weights 0 to 9,999. "The largest possible value is 959,904." The associated constants of `Sheet` are these numbers.
use Rattle.std.specs.Prelude.{ℕ}

abbrev pub max_bytes : ℕ
max_bytes = 8192

abbrev pub catalogue_limit : ℕ
catalogue_limit = 512

abbrev pub option_limit : ℕ
option_limit = 32

abbrev pub ordering_limit : ℕ
ordering_limit = 64

abbrev pub largest_option : ℕ
largest_option = 250

abbrev pub largest_weight : ℕ
largest_weight = 9999

abbrev pub largest_value : ℕ
largest_value = 959904
