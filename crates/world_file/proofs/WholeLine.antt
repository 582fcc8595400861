-- Reading a whole line.
use Rattle.std.proofs.Common.{◌≡◌, ◌==◌, ℕ, List, [], ◌∷◌, ◌++◌, length, Option, Some, refl, sym, ◌∙◌, ap, append_assoc, inl, inr}
use Rattle.std.proofs.lemmas.Bool.{cases_Bool, eqb-true}
use Rattle.std.proofs.lemmas.Option.{none-some, same_Some}
use Rattle.irt_base.specs.declared.plants.Device.{Device}
use Rattle.irt_world.specs.declared.forwardings.Forwarding.{Forwarding}
use Rattle.world_file.specs.Reading.{◌>>=◌, after_byte, after_letter, delays_read, errors_read, line_read, links_read, with_delay, with_error}
use Rattle.world_file.specs.Text.{Line, line_text, numbers_text}
use Rattle.world_file.specs.declared.draft.Draft.{Draft}
use Rattle.world_file.proofs.LineText.{bind_some, each_again, each_taken, each_with, few_links, links_again, links_taken, links_with}

-- The draft after an error for each device, and so on.
abbrev pub errors_with : List Device → Line → Draft → Draft
errors_with devices l d = each_with (λ e _ m. with_error e m) devices l.errors d

abbrev pub delays_with : List Forwarding → Line → Draft → Draft
delays_with fs l d = each_with with_delay fs l.bridges d

abbrev pub line_with : List Device → List Forwarding → ℕ → Line → Draft → Draft
line_with devices fs links l d = links_with links l.cuts (delays_with fs l (errors_with devices l d))

-- one number per device and per forwarding
pub record IsLineFor (devices : List Device) (fs : List Forwarding) (l : Line) : Type 0 where
  pub errors : length l.errors ≡ length devices
  pub bridges : length l.bridges ≡ length fs

abbrev after_third : Line → List ℕ → List ℕ
after_third l rest = numbers_text l.cuts ++ 10 ∷ rest

abbrev after_second : Line → List ℕ → List ℕ
after_second l rest = numbers_text l.bridges ++ 32 ∷ 67 ∷ after_third l rest

pub line_text-then : (l : Line) (rest : List ℕ) → line_text l ++ rest ≡ 69 ∷ (numbers_text l.errors ++ 32 ∷ 66 ∷ after_second l rest)
line_text-then l rest =
    ap (λ t. 69 ∷ t) (append_assoc (numbers_text l.errors) (32 ∷ 66 ∷ (numbers_text l.bridges ++ 32 ∷ 67 ∷ (numbers_text l.cuts ++ 10 ∷ []))) rest)
    ∙ ap (λ t. 69 ∷ (numbers_text l.errors ++ 32 ∷ 66 ∷ t)) (append_assoc (numbers_text l.bridges) (32 ∷ 67 ∷ (numbers_text l.cuts ++ 10 ∷ [])) rest)
    ∙ ap (λ t. 69 ∷ (numbers_text l.errors ++ 32 ∷ 66 ∷ (numbers_text l.bridges ++ 32 ∷ 67 ∷ t))) (append_assoc (numbers_text l.cuts) (10 ∷ []) rest)

abbrev from_third : ℕ → Draft × List ℕ → Option (Draft × List ℕ)
from_third links x = after_letter 67 x.1 >>= λ third. links_read links (length third) x.0 third

abbrev from_second : List Forwarding → ℕ → Draft × List ℕ → Option (Draft × List ℕ)
from_second fs links x = after_letter 66 x.1 >>= λ second. (delays_read fs x.0 second >>= from_third links)

line_read-is : (devices : List Device) (fs : List Forwarding) (links : ℕ) (d : Draft) (bytes : List ℕ) →
    line_read devices fs links d bytes ≡ (after_byte 69 bytes >>= λ start. (errors_read devices d start >>= from_second fs links))
unfolding line_read
line_read-is devices fs links d bytes = refl

pub line_again : (devices : List Device) (fs : List Forwarding) (links : ℕ) (l : Line) (d : Draft) (rest : List ℕ) → IsLineFor devices fs l →
    line_read devices fs links d (line_text l ++ rest) ≡ Some (line_with devices fs links l d, rest)
line_again devices fs links l d rest counts =
    ap (line_read devices fs links d) (line_text-then l rest)
    ∙ line_read-is devices fs links d (69 ∷ (numbers_text l.errors ++ 32 ∷ 66 ∷ after_second l rest))
    ∙ ap (λ (r : Option (Draft × List ℕ)). r >>= from_second fs links) (each_again (λ e _ m. with_error e m) devices l.errors d (32 ∷ 66 ∷ after_second l rest) counts.errors refl)
    ∙ ap (λ (r : Option (Draft × List ℕ)). r >>= from_third links) (each_again with_delay fs l.bridges (errors_with devices l d) (32 ∷ 67 ∷ after_third l rest) counts.bridges refl)
    ∙ links_again links (length (after_third l rest)) l.cuts (delays_with fs l (errors_with devices l d)) rest (few_links l.cuts rest)

byte_taken : (byte : ℕ) (bytes rest : List ℕ) → after_byte byte bytes ≡ Some rest → bytes ≡ byte ∷ rest
byte_taken byte [] rest read = absurd (none-some rest read)
byte_taken byte (b ∷ bs) rest read =
    elim (cases_Bool (b == byte)) [
      | inl same ↦ ap (λ c. c ∷ bs) (eqb-true b byte same) ∙ ap (λ t. byte ∷ t) (same_Some bs rest (rw same at read))
      | inr not_same ↦ absurd (none-some rest (rw not_same at read))
    ]

letter_taken : (letter : ℕ) (bytes rest : List ℕ) → after_letter letter bytes ≡ Some rest → bytes ≡ 32 ∷ letter ∷ rest
letter_taken letter bytes rest read =
    let (t, space, more) = bind_some (after_byte 32 bytes) (after_byte letter) rest read in
    byte_taken 32 bytes t space ∙ ap (λ u. 32 ∷ u) (byte_taken letter t rest more)

-- The bytes are a line of the form with the counts wanted, and the rest.
pub record IsLine (devices : List Device) (fs : List Forwarding) (links : ℕ) (d : Draft) (bytes : List ℕ) (x : Draft × List ℕ) : Type 0 where
  pub l : Line
  pub counts : IsLineFor devices fs l
  pub text : bytes ≡ line_text l ++ x.1
  pub draft : x.0 ≡ line_with devices fs links l d

pub line_taken : (devices : List Device) (fs : List Forwarding) (links : ℕ) (d : Draft) (bytes : List ℕ) (x : Draft × List ℕ) →
    line_read devices fs links d bytes ≡ Some x → IsLine devices fs links d bytes x
line_taken devices fs links d bytes x read =
    let (start, first, more) = bind_some (after_byte 69 bytes) (λ t. errors_read devices d t >>= from_second fs links) x (sym (line_read-is devices fs links d bytes) ∙ read) in
    let (e, errors_are, from_b) = bind_some (errors_read devices d start) (from_second fs links) x more in
    let errors = each_taken (λ e _ m. with_error e m) devices d start e errors_are in
    let (second, second_is, delays_then) = bind_some (after_letter 66 e.1) (λ t. delays_read fs e.0 t >>= from_third links) x from_b in
    let (b, delays_are, from_c) = bind_some (delays_read fs e.0 second) (from_third links) x delays_then in
    let delays = each_taken with_delay fs e.0 second b delays_are in
    let (third, third_is, links_then) = bind_some (after_letter 67 b.1) (λ t. links_read links (length t) b.0 t) x from_c in
    let cuts = links_taken links (length third) b.0 third x links_then in
    let l : Line = record { errors = errors.zs; bridges = delays.zs; cuts = cuts.zs } in
    let third_text : b.1 ≡ 32 ∷ 67 ∷ after_third l x.1 = letter_taken 67 b.1 third third_is ∙ ap (λ t. 32 ∷ 67 ∷ t) cuts.text in
    let second_text : e.1 ≡ 32 ∷ 66 ∷ after_second l x.1 =
    letter_taken 66 e.1 second second_is ∙ ap (λ t. 32 ∷ 66 ∷ t) (delays.text ∙ ap (λ t. numbers_text l.bridges ++ t) third_text) in
    record {
      l = l;
      counts = record { errors = errors.count; bridges = delays.count };
      text = byte_taken 69 bytes start first ∙ ap (λ t. 69 ∷ t) (errors.text ∙ ap (λ t. numbers_text l.errors ++ t) second_text) ∙ sym (line_text-then l x.1);
      draft = cuts.draft ∙ ap (links_with links cuts.zs) (delays.draft ∙ ap (each_with with_delay fs delays.zs) errors.draft);
    }
