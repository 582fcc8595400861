-- Numbers in the fields of blocks.
use Rattle.std.proofs.Common.{◌≡◌, ℕ, ◌^◌, ◌<◌, ◌≤◌, List, ◌++◌, length, take}
use Rattle.byteorder.specs.Numbers.{big_number-reads_back}
use Rattle.byte_laws.specs.Spelling.{IsBytes}
use Rattle.byte_laws.proofs.Words.{length-word, word-lt, word_of_take}
use Rattle.irt_block.specs.Reading.{spelled, number_in}

pub length-spelled : (n x : ℕ) → length (spelled n x) ≡ n
unfolding spelled
length-spelled n x = length-word n x

pub number_in-spelled : (n x : ℕ) (rest : List ℕ) → x < 256 ^ n → number_in n (spelled n x ++ rest) ≡ x
unfolding spelled number_in
number_in-spelled n x rest h = big_number-reads_back n x rest h

pub number_in-lt : (n : ℕ) (bytes : List ℕ) → IsBytes bytes → number_in n bytes < 256 ^ n
unfolding number_in
number_in-lt n bytes fits = word-lt n bytes fits

pub spelled-number_in : (n : ℕ) (bytes : List ℕ) → n ≤ length bytes → IsBytes bytes → spelled n (number_in n bytes) ≡ take n bytes
unfolding spelled number_in
spelled-number_in n bytes long fits = word_of_take n bytes long fits
