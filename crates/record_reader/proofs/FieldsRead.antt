-- The text of a field is read as its value and what follows, and what is read is a field's text.
use Rattle.std.proofs.Common.{◌≡◌, ◌<◌, ◌≤◌, ◌+◌, ◌-◌, ◌^◌, ◌==◌, ℕ, zero, suc, ℤ, Bool, true, false, cond, List, [], ◌∷◌, ◌++◌, length, take, drop, nat_lt, Option, Some, None, refl, sym, ◌∙◌, ap, subst, arith, length-append, inl, inr}
use Rattle.std.specs.Prelude.{if◌then◌else◌, decimal, bytes_eq, option_map, slice_get, unwrap_or, position}
use Rattle.std.specs.Fmt.{signed_decimal}
use Rattle.std.specs.List.{position_or_len}
use Rattle.std.proofs.lemmas.Bool.{cases_Bool, eqb-true}
use Rattle.std.proofs.lemmas.Bool.Decides.{nat_tests}
use Rattle.std.proofs.lemmas.List.{take-append-drop}
use Rattle.std.proofs.lemmas.Option.{none-some, same_Some}
use Rattle.irt_base.specs.Text.{frame_text, hex_digits}
use Rattle.irt_base.specs.declared.numbers.DevId.{DevId}
use Rattle.irt_base.specs.declared.numbers.FrameId.{FrameId}
use Rattle.irt_base.specs.declared.numbers.PortNo.{PortNo}
use Rattle.irt_base.specs.declared.plants.Device.{Device}
use Rattle.irt_base.specs.declared.plants.Plant.{Plant}
use Rattle.irt_trace.specs.Journal.{field, frame_field, name_of, time_field}
use Rattle.plant_rules.specs.Meets.{MeetsRules}
use Rattle.record_text.specs.Text.{flag_field, word_field}
use Rattle.record_laws.specs.Fitting.{IsTime}
use Rattle.record_laws.proofs.Fields.{Ends, IsPlain, decimal-plain, hex_digits-plain, time-plain}
use Rattle.record_laws.proofs.Names.{name-one, name-plain}
use Rattle.record_reader.specs.Reading.{◌>>=◌, after_byte, device_of_name, device_read, ends_field, field_length, flag_of, flag_read, frame_of, frame_read, number_read, number_up_to, port_read, time_of, time_read, token_read, word_of, word_read}
use Rattle.record_reader.proofs.Values.{bind_some, bytes-same, frame_again, frame_taken, number_up_to-again, number_up_to-taken, same-bytes, time_again, time_taken, when_some, word_again, word_taken}

pub bind-again : {A B : Type 0} (o : Option A) (f : A → Option B) (x : A) (y : Option B) → o ≡ Some x → f x ≡ y → (o >>= f) ≡ y
bind-again o f x y first more = ap (λ o. o >>= f) first ∙ more

pub byte_again : (b : ℕ) (rest : List ℕ) → after_byte b (b ∷ rest) ≡ Some rest
byte_again b rest = ap (λ t. if t then Some rest else None) (itself b)
  where
    itself : (b : ℕ) → (b == b) ≡ true
    itself b = grind (arith, nat_tests)

pub byte_taken : (b : ℕ) (bytes rest : List ℕ) → after_byte b bytes ≡ Some rest → bytes ≡ b ∷ rest
byte_taken b [] rest is = absurd (none-some rest is)
byte_taken b (c ∷ bytes) rest is =
    let (first, same) = when_some (c == b) bytes rest is in
    (λ i. eqb-true c b first i ∷ same i)

-- ---- tokens

plain_length : (t rest : List ℕ) → IsPlain t → Ends rest → position_or_len ends_field (t ++ rest) ≡ length t
plain_length [] [] plain ends = absurd ends
plain_length [] (c ∷ rest) plain ends = rw ends refl
plain_length (b ∷ t) rest plain ends = rw plain.0 (omega (arith, plain_length t rest plain.1 ends))

place_found : (p : ℕ → Bool) (xs : List ℕ) → position_or_len p xs < length xs → unwrap_or (position p xs) (length xs) ≡ position_or_len p xs
place_found p xs within = ap (λ b. unwrap_or (cond b (Some (position_or_len p xs)) None) (length xs)) (small (position_or_len p xs) (length xs) within)
  where
    small : (m n : ℕ) → m < n → nat_lt m n ≡ true
    small m n below = grind (arith, nat_tests)

ends_some : (rest : List ℕ) → Ends rest → 0 < length rest
ends_some [] ends = absurd ends
ends_some (c ∷ rest) ends = omega arith

field_length-plain : (t rest : List ℕ) → IsPlain t → Ends rest → field_length (t ++ rest) ≡ length t
field_length-plain t rest plain ends =
    let found = plain_length t rest plain ends in
    let some = ends_some rest ends in
    place_found ends_field (t ++ rest) (omega (arith, found, some, length-append t rest)) ∙ found

token_again : (t rest : List ℕ) → IsPlain t → Ends rest → token_read (32 ∷ (t ++ rest)) ≡ Some (t, rest)
unfolding token_read
token_again t rest plain ends =
    ap (λ n. Some (take n (t ++ rest), drop n (t ++ rest))) (field_length-plain t rest plain ends)
    ∙ (λ i. Some (take-front t rest i, drop-front t rest i))
  where
    take-front : (t rest : List ℕ) → take (length t) (t ++ rest) ≡ t
    take-front [] rest = refl
    take-front (b ∷ t) rest = ap (λ xs. b ∷ xs) (take-front t rest)

    drop-front : (t rest : List ℕ) → drop (length t) (t ++ rest) ≡ rest
    drop-front [] rest = refl
    drop-front (b ∷ t) rest = drop-front t rest

token_taken : (bytes : List ℕ) (x : List ℕ × List ℕ) → token_read bytes ≡ Some x → bytes ≡ 32 ∷ (x.0 ++ x.1)
unfolding token_read
token_taken bytes x is =
    let (rest, space, same) = bind_some (after_byte 32 bytes) (λ rest. Some (take (field_length rest) rest, drop (field_length rest) rest)) x is in
    byte_taken 32 bytes rest space
    ∙ (ap (λ t. 32 ∷ t) (sym (take-append-drop (field_length rest) rest))
    ∙ ap (λ (y : List ℕ × List ℕ). 32 ∷ (y.0 ++ y.1)) (same_Some (take (field_length rest) rest, drop (field_length rest) rest) x same))

-- a field whose value is found so
abbrev pub fielded : {A : Type 0} → (List ℕ → Option A) → List ℕ → Option (A × List ℕ)
fielded of bytes = token_read bytes >>= λ x. of x.0 >>= λ v. Some (v, x.1)

pub fielded_again : {A : Type 0} (of : List ℕ → Option A) (t rest : List ℕ) (v : A) → IsPlain t → Ends rest → of t ≡ Some v → fielded of (32 ∷ (t ++ rest)) ≡ Some (v, rest)
fielded_again of t rest v plain ends value =
    ap (λ (o : Option (List ℕ × List ℕ)). o >>= λ x. of x.0 >>= λ v. Some (v, x.1)) (token_again t rest plain ends)
    ∙ ap (λ o. o >>= λ v. Some (v, rest)) value

-- the text of a field, and its value
pub record IsField {A : Type 0} (of : List ℕ → Option A) (bytes : List ℕ) (y : A × List ℕ) : Type 0 where
  pub text : List ℕ
  pub bytes_are : bytes ≡ 32 ∷ (text ++ y.1)
  pub value : of text ≡ Some y.0

pub fielded_taken : {A : Type 0} (of : List ℕ → Option A) (bytes : List ℕ) (y : A × List ℕ) → fielded of bytes ≡ Some y → IsField of bytes y
fielded_taken of bytes y is =
    let (x, token, more) = bind_some (token_read bytes) (λ x. of x.0 >>= λ v. Some (v, x.1)) y is in
    let (v, value, same) = bind_some (of x.0) (λ v. Some (v, x.1)) y more in
    let pair = same_Some (v, x.1) y same in
    record {
      text = x.0;
      bytes_are = token_taken bytes x token ∙ ap (λ y. 32 ∷ (x.0 ++ y.1)) pair;
      value = value ∙ ap (λ y. Some y.0) pair;
    }

-- ---- numbers, times, words, frames, flags and names

pub number_read-again : (max n : ℕ) (rest : List ℕ) → n < 2 ^ 64 → n ≤ max → Ends rest → number_read max (field n ++ rest) ≡ Some (n, rest)
number_read-again max n rest fits small ends =
    fielded_again (number_up_to max) (decimal n) rest n (decimal-plain n fits) ends (number_up_to-again max n (decimal n) fits small refl)

pub number_read-taken : (max : ℕ) (bytes : List ℕ) (y : ℕ × List ℕ) → number_read max bytes ≡ Some y → (y.0 < 2 ^ 64) × (y.0 ≤ max) × (bytes ≡ field y.0 ++ y.1)
number_read-taken max bytes y is =
    let f = fielded_taken (number_up_to max) bytes y is in
    let (fits, small, text) = number_up_to-taken max y.0 f.text f.value in
    (fits, small, f.bytes_are ∙ ap (λ t. 32 ∷ (t ++ y.1)) text)

pub time_read-again : (z : ℤ) (rest : List ℕ) → IsTime z → Ends rest → time_read (time_field z ++ rest) ≡ Some (z, rest)
time_read-again z rest fits ends = fielded_again time_of (signed_decimal z) rest z (time-plain z fits) ends (time_again z fits)

pub time_read-taken : (bytes : List ℕ) (y : ℤ × List ℕ) → time_read bytes ≡ Some y → IsTime y.0 × (bytes ≡ time_field y.0 ++ y.1)
time_read-taken bytes y is =
    let f = fielded_taken time_of bytes y is in
    let (fits, text) = time_taken f.text y.0 f.value in
    (fits, f.bytes_are ∙ ap (λ t. 32 ∷ (t ++ y.1)) text)

pub word_read-again : (n : ℕ) (rest : List ℕ) → n < 2 ^ 64 → Ends rest → word_read (word_field n ++ rest) ≡ Some (n, rest)
word_read-again n rest fits ends = fielded_again word_of (hex_digits 16 n) rest n (hex_digits-plain 16 n) ends (word_again n fits)

pub word_read-taken : (bytes : List ℕ) (y : ℕ × List ℕ) → word_read bytes ≡ Some y → (y.0 < 2 ^ 64) × (bytes ≡ word_field y.0 ++ y.1)
word_read-taken bytes y is =
    let f = fielded_taken word_of bytes y is in
    let (fits, text) = word_taken f.text y.0 f.value in
    (fits, f.bytes_are ∙ ap (λ t. 32 ∷ (t ++ y.1)) text)

pub frame_read-again : (f : FrameId) (rest : List ℕ) → f.0 < 2 ^ 16 → Ends rest → frame_read (frame_field f.0 ++ rest) ≡ Some (f, rest)
frame_read-again f rest fits ends = fielded_again frame_of (frame_text f.0) rest f (refl, (refl, hex_digits-plain 4 f.0)) ends (frame_again f fits)

pub frame_read-taken : (bytes : List ℕ) (y : FrameId × List ℕ) → frame_read bytes ≡ Some y → (y.0.0 < 2 ^ 16) × (bytes ≡ frame_field y.0.0 ++ y.1)
frame_read-taken bytes y is =
    let f = fielded_taken frame_of bytes y is in
    let (fits, text) = frame_taken f.text y.0 f.value in
    (fits, f.bytes_are ∙ ap (λ t. 32 ∷ (t ++ y.1)) text)

pub flag_read-again : (b : Bool) (rest : List ℕ) → Ends rest → flag_read (flag_field b ++ rest) ≡ Some (b, rest)
flag_read-again true rest ends = fielded_again flag_of (49 ∷ []) rest true (refl, tt) ends refl
flag_read-again false rest ends = fielded_again flag_of (48 ∷ []) rest false (refl, tt) ends refl

flag_text : (b : Bool) (t rest : List ℕ) → flag_of t ≡ Some b → 32 ∷ (t ++ rest) ≡ flag_field b ++ rest
flag_text b t rest is =
    elim (cases_Bool (bytes_eq t (49 ∷ []))) [
      | inl one ↦ ap (λ t. 32 ∷ (t ++ rest)) (same-bytes t (49 ∷ []) one) ∙ ap (λ b. flag_field b ++ rest) (same_Some true b (rw one at is))
      | inr other ↦
          let (none, same) = when_some (bytes_eq t (48 ∷ [])) false b (rw other at is) in
          ap (λ t. 32 ∷ (t ++ rest)) (same-bytes t (48 ∷ []) none) ∙ ap (λ b. flag_field b ++ rest) same
    ]

pub flag_read-taken : (bytes : List ℕ) (y : Bool × List ℕ) → flag_read bytes ≡ Some y → bytes ≡ flag_field y.0 ++ y.1
flag_read-taken bytes y is =
    let f = fielded_taken flag_of bytes y is in
    f.bytes_are ∙ flag_text y.0 f.text y.1 f.value

pub port_read-again : (p : PortNo) (rest : List ℕ) → p.0 < 2 ^ 8 → Ends rest → port_read (field p.0 ++ rest) ≡ Some (p, rest)
port_read-again p rest fits ends =
    ap (λ (o : Option (ℕ × List ℕ)). o >>= λ x. of x) (number_read-again (2 ^ 8 - 1) p.0 rest (omega arith) (omega arith) ends)
  where
    of : ℕ × List ℕ → Option (PortNo × List ℕ)
    of x = Some (record { 0 = x.0 }, x.1)

pub port_read-taken : (bytes : List ℕ) (y : PortNo × List ℕ) → port_read bytes ≡ Some y → (y.0.0 < 2 ^ 8) × (bytes ≡ field y.0.0 ++ y.1)
port_read-taken bytes y is =
    let (x, read, same) = bind_some (number_read (2 ^ 8 - 1) bytes) of y is in
    let (fits, small, text) = number_read-taken (2 ^ 8 - 1) bytes x read in
    let pair = same_Some (port x.0, x.1) y same in
    (omega (arith, small, ap (λ (y : PortNo × List ℕ). y.0.0) pair), text ∙ ap (λ (y : PortNo × List ℕ). field y.0.0 ++ y.1) pair)
  where
    port : ℕ → PortNo
    port n = record { 0 = n }

    of : ℕ × List ℕ → Option (PortNo × List ℕ)
    of x = Some (port x.0, x.1)

-- ---- devices

abbrev name_at : List Device → ℕ → List ℕ
name_at devices device = unwrap_or (option_map (λ (d : Device). d.name) (slice_get devices device)) []

abbrev place_in : List ℕ → List Device → ℕ
place_in name devices = position_or_len (λ (d : Device). bytes_eq d.name name) devices

one_more : (n : ℕ) → suc n ≡ 1 + n
one_more n = omega arith

place_within : (name : List ℕ) (devices : List Device) (n : ℕ) → n < length devices → name_at devices n ≡ name → place_in name devices < length devices
place_within name [] n there is = absurd (omega arith)
place_within name (e ∷ devices) zero there is = rw (bytes-same e.name name is) (omega arith)
place_within name (e ∷ devices) (suc n) there is =
    elim (cases_Bool (bytes_eq e.name name)) [
      | inl here ↦ rw here (omega arith)
      | inr later ↦ rw later (omega (arith, place_within name devices n (omega arith) is))
    ]

named_there : (name : List ℕ) (devices : List Device) → place_in name devices < length devices → name_at devices (place_in name devices) ≡ name
named_there name [] within = absurd (omega arith)
named_there name (e ∷ devices) within =
    elim (cases_Bool (bytes_eq e.name name)) [
      | inl here ↦ ap (name_at (e ∷ devices)) (first_place here) ∙ same-bytes e.name name here
      | inr later ↦ ap (name_at (e ∷ devices)) (later_place later) ∙ named_there name devices (less later)
    ]
  where
    first_place : bytes_eq e.name name ≡ true → place_in name (e ∷ devices) ≡ 0
    first_place here = rw here refl

    later_place : bytes_eq e.name name ≡ false → place_in name (e ∷ devices) ≡ suc (place_in name devices)
    later_place later = rw later (sym (one_more (place_in name devices)))

    less : bytes_eq e.name name ≡ false → place_in name devices < length devices
    less later = omega (arith, later_place later, within)

device : ℕ → DevId
device n = record { 0 = n }

abbrev found : ℕ → Option DevId
found n = Some (record { 0 = n })

pub device_read-taken : (plant : Plant) (bytes : List ℕ) (y : DevId × List ℕ) → device_read plant bytes ≡ Some y →
    (y.0.0 < length plant.devices) × (bytes ≡ 32 ∷ (name_of plant y.0.0 ++ y.1))
device_read-taken plant bytes y is =
    let f = fielded_taken (device_of_name plant) bytes y is in
    let (n, place, same) = bind_some (position (λ (d : Device). bytes_eq d.name f.text) plant.devices) found y.0 f.value in
    let (test, at) = when_some (nat_lt (place_in f.text plant.devices) (length plant.devices)) (place_in f.text plant.devices) n place in
    let within = below (place_in f.text plant.devices) (length plant.devices) test in
    let number : place_in f.text plant.devices ≡ y.0.0 = at ∙ ap (λ (o : Option DevId). unwrap_or (option_map (λ (d : DevId). d.0) o) 0) same in
    let name : f.text ≡ name_of plant y.0.0 = sym (named_there f.text plant.devices within) ∙ ap (name_at plant.devices) number in
    (subst (λ m. m < length plant.devices) number within, f.bytes_are ∙ ap (λ t. 32 ∷ (t ++ y.1)) name)
  where
    below : (m n : ℕ) → nat_lt m n ≡ true → m < n
    below m n test = grind (arith, nat_tests)

pub device_read-again : (plant : Plant) (d : DevId) (rest : List ℕ) → MeetsRules plant → d.0 < length plant.devices → Ends rest →
    device_read plant (32 ∷ (name_of plant d.0 ++ rest)) ≡ Some (d, rest)
device_read-again plant d rest rules there ends =
    fielded_again (device_of_name plant) (name_of plant d.0) rest d (name-plain plant d.0 rules) ends
    (ap (λ b. cond b (Some (place_in (name_of plant d.0) plant.devices)) None >>= found) (small (place_in (name_of plant d.0) plant.devices) (length plant.devices) within)
    ∙ ap found number)
  where
    within : place_in (name_of plant d.0) plant.devices < length plant.devices
    within = place_within (name_of plant d.0) plant.devices d.0 there refl

    number : place_in (name_of plant d.0) plant.devices ≡ d.0
    number = name-one plant (place_in (name_of plant d.0) plant.devices) d.0 rules within there (named_there (name_of plant d.0) plant.devices within)

    small : (m n : ℕ) → m < n → nat_lt m n ≡ true
    small m n below = grind (arith, nat_tests)
