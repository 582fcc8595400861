-- Words that are read one by one are the words of the bytes.
use Rattle.std.proofs.Common.{◌≡◌, ℕ, suc, ◌+◌, ◌*◌, ◌≤◌, List, [], ◌∷◌, ◌++◌, length, take, drop, refl, sym, ◌∙◌, ap, arith}
use Rattle.std.specs.Int.{w64, from_be_bytes}
use Rattle.std.specs.List.{flat_map}
use Rattle.std.proofs.lemmas.List.{length-drop, drop-drop}
use Rattle.byteorder.specs.Endian.{big_number, big_bytes, IsRead}
use Rattle.irt_base.specs.Words.{words_of, bytes_of}
use Rattle.irt_base.proofs.WordLaws.{words_of-next}

eight : (bytes : List ℕ) → 8 ≤ length bytes → big_number 8 bytes ≡ from_be_bytes w64 (take 8 bytes)
eight (a ∷ b ∷ c ∷ d ∷ e ∷ f ∷ g ∷ h ∷ rest) long = omega arith
eight [] long = absurd (omega (arith, long))
eight (a ∷ []) long = absurd (omega (arith, long))
eight (a ∷ b ∷ []) long = absurd (omega (arith, long))
eight (a ∷ b ∷ c ∷ []) long = absurd (omega (arith, long))
eight (a ∷ b ∷ c ∷ d ∷ []) long = absurd (omega (arith, long))
eight (a ∷ b ∷ c ∷ d ∷ e ∷ []) long = absurd (omega (arith, long))
eight (a ∷ b ∷ c ∷ d ∷ e ∷ f ∷ []) long = absurd (omega (arith, long))
eight (a ∷ b ∷ c ∷ d ∷ e ∷ f ∷ g ∷ []) long = absurd (omega (arith, long))

pub words_read : (dst src : List ℕ) → length src ≡ 8 * length dst → IsRead big_number 8 src dst → dst ≡ words_of src
words_read [] [] long read = refl
words_read [] (b ∷ src) long read = absurd (omega (arith, long))
words_read (w ∷ dst) src long read =
    let enough : 8 ≤ length src = omega (arith, long) in
    let rest : length (drop 8 src) ≡ 8 * length dst = omega (arith, long, length-drop 8 src) in
    let later : IsRead big_number 8 (drop 8 src) dst =
    λ k within.
    let place : 8 * suc k ≡ 8 + 8 * k = omega arith in
    read (suc k) (omega (arith, within)) ∙ ap (λ n. big_number 8 (drop n src)) place ∙ ap (big_number 8) (sym (drop-drop (8 * k) 8 src)) in
    ap (λ n. n ∷ dst) (read 0 (omega arith) ∙ eight src enough)
    ∙ ap (λ l. from_be_bytes w64 (take 8 src) ∷ l) (words_read dst (drop 8 src) rest later)
    ∙ sym (words_of-next src enough)

-- words that are written one by one are their bytes
pub bytes_written : (words : List ℕ) → flat_map (big_bytes 8) words ≡ bytes_of words
bytes_written [] = refl
bytes_written (w ∷ words) = ap (λ l. big_bytes 8 w ++ l) (bytes_written words)
