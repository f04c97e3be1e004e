-- A record in a lent output.
use Rattle.std.specs.Prelude.{ℕ, ◌≤◌, ◌≡◌, refl, List, ◌++◌, length}
use native.Mathlib.Omega.{arith}
use Rattle.std.proofs.Math.ListN.{length-append}
use Rattle.sheet.specs.declared.sheet.Sheet.{Sheet}
use Rattle.print.specs.Put.{put}
use Rattle.entries.specs.laws.Put.{put_then}
use Rattle.fields.specs.Record.{two_bytes, twos_of, bytes_in, head_of, tail_of, bytes_of}
use Rattle.fields.specs.laws.Lengths.{twos_length, bytes_length}

module _ (s : Sheet) (o : List ℕ) where
  abbrev weights : List ℕ
  weights = twos_of 32 s.weights ++ twos_of 64 s.ordering_weights

  abbrev after_orderings : List ℕ
  after_orderings = two_bytes s.ordering_count ++ weights

  abbrev after_options : List ℕ
  after_options = two_bytes s.option_count ++ after_orderings

  pub head_put : {a b c d e : List ℕ} → a ≡ put 0 (two_bytes s.catalogue_lines) o → b ≡ put 2 (two_bytes s.option_count) a → c ≡ put 4 (two_bytes s.ordering_count) b
      → d ≡ put 6 (twos_of 32 s.weights) c → e ≡ put 70 (twos_of 64 s.ordering_weights) d → e ≡ put 0 (head_of s) o
  head_put {a} {b} {c} u v w x y =
      put_then 0 2 (two_bytes s.catalogue_lines) after_options o u refl
      (put_then 2 4 (two_bytes s.option_count) after_orderings a v refl
      (put_then 4 6 (two_bytes s.ordering_count) weights b w refl
      (put_then 6 70 (twos_of 32 s.weights) (twos_of 64 s.ordering_weights) c x (let k = twos_length 32 s.weights in omega arith) y)))

  abbrev ends : List ℕ
  ends = bytes_in 64 s.firsts ++ bytes_in 64 s.seconds

  abbrev after_afters : List ℕ
  after_afters = bytes_in 32 s.numbers ++ ends

  abbrev after_befores : List ℕ
  after_befores = bytes_in 512 s.afters ++ after_afters

  abbrev after_letters : List ℕ
  after_letters = bytes_in 512 s.befores ++ after_befores

  pub tail_put : {a b c d e f : List ℕ} → a ≡ put 198 (bytes_in 512 s.letters) o → b ≡ put 710 (bytes_in 512 s.befores) a → c ≡ put 1222 (bytes_in 512 s.afters) b
      → d ≡ put 1734 (bytes_in 32 s.numbers) c → e ≡ put 1766 (bytes_in 64 s.firsts) d → f ≡ put 1830 (bytes_in 64 s.seconds) e → f ≡ put 198 (tail_of s) o
  tail_put {a} {b} {c} {d} u v w x y z =
      put_then 198 710 (bytes_in 512 s.letters) after_letters o u (let k = bytes_length 512 s.letters in omega arith)
      (put_then 710 1222 (bytes_in 512 s.befores) after_befores a v (let k = bytes_length 512 s.befores in omega arith)
      (put_then 1222 1734 (bytes_in 512 s.afters) after_afters b w (let k = bytes_length 512 s.afters in omega arith)
      (put_then 1734 1766 (bytes_in 32 s.numbers) ends c x (let k = bytes_length 32 s.numbers in omega arith)
      (put_then 1766 1830 (bytes_in 64 s.firsts) (bytes_in 64 s.seconds) d y (let k = bytes_length 64 s.firsts in omega arith) z))))

  head_length : length (head_of s) ≡ 198
  head_length =
      let a = twos_length 32 s.weights in let b = twos_length 64 s.ordering_weights in
      let k = length-append (twos_of 32 s.weights) (twos_of 64 s.ordering_weights) in omega arith

  tail_length : length (tail_of s) ≡ 1696
  tail_length =
      let a = bytes_length 512 s.letters in let b = bytes_length 512 s.befores in let c = bytes_length 512 s.afters in
      let d = bytes_length 32 s.numbers in let e = bytes_length 64 s.firsts in let f = bytes_length 64 s.seconds in
      let u = length-append (bytes_in 512 s.letters) after_letters in let v = length-append (bytes_in 512 s.befores) after_befores in
      let w = length-append (bytes_in 512 s.afters) after_afters in let x = length-append (bytes_in 32 s.numbers) ends in
      let y = length-append (bytes_in 64 s.firsts) (bytes_in 64 s.seconds) in omega arith

  pub record_put : {a b : List ℕ} → a ≡ put 0 (head_of s) o → b ≡ put 198 (tail_of s) a → b ≡ put 0 (bytes_of s) o
  unfolding bytes_of
  record_put u v = put_then 0 198 (head_of s) (tail_of s) o u (let k = head_length in omega arith) v

  pub record_fits : 1894 ≤ length o → length (bytes_of s) ≤ length o
  unfolding bytes_of
  record_fits h = let a = head_length in let b = tail_length in let k = length-append (head_of s) (tail_of s) in omega arith
