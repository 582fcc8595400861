-- Bytes that no fault is found in are a frame with the fields at their places, and a frame's bytes have its
-- fields at their places.
use Rattle.std.proofs.Common.{◌≡◌, ◌<◌, ◌≤◌, ℕ, ◌+◌, ◌-◌, ◌^◌, true, List, [], ◌∷◌, ◌++◌, length, take, drop, slice_index, get_or, None, Ok, refl, sym, ◌∙◌, ap, arith, length-append, length-drop, ◌==◌, lit<}
use Rattle.std.proofs.lemmas.List.{take_at, drop_at, take-append-drop, drop-drop, get_or-drop, length-take-le}
use Rattle.std.proofs.lemmas.Bool.Decides.{nat_tests}
use Rattle.byteorder.specs.Endian.{big_bytes, big_number}
use Rattle.byteorder.specs.Numbers.{big_number-reads_back}
use Rattle.byte_laws.specs.Spelling.{IsBytes, ReadingIsSpelling}
use Rattle.byte_laws.proofs.Spelling.{one_spelling, no_fault_found}
use Rattle.byte_laws.proofs.Words.{IsBytes-drop, word-lt, cut_at, word_at}
use Rattle.irt_base.specs.Valid.{IsDataLength, IsWithin}
use Rattle.rtc3_frame.specs.declared.frame.TheConstants.{ETHERTYPE}
use Rattle.std.proofs.Common.{subst}
use Rattle.rtc3_frame.specs.Frame.{Fields, frame_bytes, placed_fields, fields_at, IsFrame, Spells, sent_fields}
use Rattle.rtc3_frame.specs.Fault.{fault_of, length_fits, ethertype_fits, frame_fits, transfer_fits}

two_items : (xs : List ℕ) → length xs ≡ 2 → xs ≡ get_or xs 0 0 ∷ get_or xs 1 0 ∷ []
two_items [] e = absurd (omega arith)
two_items (a ∷ []) e = absurd (omega arith)
two_items (a ∷ b ∷ []) e = refl
two_items (a ∷ b ∷ c ∷ xs) e = absurd (omega arith)

-- the last two of some bytes
last_two : (xs : List ℕ) (n : ℕ) → length xs ≡ n + 2 → drop n xs ≡ slice_index xs n ∷ slice_index xs (n + 1) ∷ []
last_two xs n long =
    let first : get_or (drop n xs) 0 0 ≡ get_or xs n 0 = get_or-drop n xs 0 0 ∙ ap (λ k. get_or xs k 0) (omega arith) in
    let second : get_or (drop n xs) 1 0 ≡ get_or xs (n + 1) 0 = get_or-drop n xs 1 0 in
    let all = two_items (drop n xs) (omega (arith, length-drop n xs)) in cc

laid_out : (bytes : List ℕ) → IsBytes bytes → 20 ≤ length bytes → big_number 2 (drop 12 bytes) ≡ ETHERTYPE →
    slice_index bytes (length bytes - 1) ≡ 0 → bytes ≡ frame_bytes (placed_fields bytes)
laid_out bytes small long ethertype transfer =
    let csdu : ℕ = length bytes - 20 in
    let end : 16 + csdu ≡ length bytes - 4 = omega arith in
    let last : length bytes - 4 + 2 ≡ length bytes - 2 = omega arith in
    let very_last : length bytes - 2 + 1 ≡ length bytes - 1 = omega arith in
    let at_0 : bytes ≡ take 6 bytes ++ drop 6 bytes = sym (take-append-drop 6 bytes) in
    let at_6 : drop 6 bytes ≡ take 6 (drop 6 bytes) ++ drop 12 bytes = cut_at 6 6 bytes in
    let at_12 : drop 12 bytes ≡ big_bytes 2 (big_number 2 (drop 12 bytes)) ++ drop 14 bytes = word_at 2 12 bytes (omega arith) small in
    let at_14 : drop 14 bytes ≡ big_bytes 2 (big_number 2 (drop 14 bytes)) ++ drop 16 bytes = word_at 2 14 bytes (omega arith) small in
    let at_16 : drop 16 bytes ≡ take csdu (drop 16 bytes) ++ drop (length bytes - 4) bytes =
    cut_at 16 csdu bytes ∙ ap (λ n. take csdu (drop 16 bytes) ++ drop n bytes) end in
    let at_end : drop (length bytes - 4) bytes ≡ big_bytes 2 (big_number 2 (drop (length bytes - 4) bytes)) ++ drop (length bytes - 2) bytes =
    word_at 2 (length bytes - 4) bytes (omega arith) small
    ∙ ap (λ n. big_bytes 2 (big_number 2 (drop (length bytes - 4) bytes)) ++ drop n bytes) last in
    let at_last : drop (length bytes - 2) bytes ≡ slice_index bytes (length bytes - 2) ∷ 0 ∷ [] =
    last_two bytes (length bytes - 2) (omega arith)
    ∙ ap (λ n. slice_index bytes (length bytes - 2) ∷ slice_index bytes n ∷ []) very_last
    ∙ ap (λ b. slice_index bytes (length bytes - 2) ∷ b ∷ []) transfer in
    at_0
    ∙ ap (λ r. take 6 bytes ++ r)
    (at_6
    ∙ ap (λ r. take 6 (drop 6 bytes) ++ r)
    (at_12
    ∙ ap (λ n. big_bytes 2 n ++ drop 14 bytes) ethertype
    ∙ ap (λ r. big_bytes 2 ETHERTYPE ++ r)
    (at_14
    ∙ ap (λ r. big_bytes 2 (big_number 2 (drop 14 bytes)) ++ r)
    (at_16
    ∙ ap (λ r. take csdu (drop 16 bytes) ++ r)
    (at_end ∙ ap (λ r. big_bytes 2 (big_number 2 (drop (length bytes - 4) bytes)) ++ r) at_last)))))

-- no fault
pub no_fault : (bytes : List ℕ) → fault_of bytes ≡ None →
    (60 ≤ length bytes) × (length_fits (length bytes) ≡ true) × (ethertype_fits bytes ≡ true) × (frame_fits (big_number 2 (drop 14 bytes)) ≡ true)
    × (transfer_fits bytes ≡ true)
no_fault bytes e = grind (arith, nat_tests)

fault_free : (bytes : List ℕ) → 60 ≤ length bytes → length_fits (length bytes) ≡ true → ethertype_fits bytes ≡ true →
    frame_fits (big_number 2 (drop 14 bytes)) ≡ true → transfer_fits bytes ≡ true → fault_of bytes ≡ None
fault_free bytes a b c d e = grind (arith, nat_tests)

csdu_length_is : (count : ℕ) → 60 ≤ count → length_fits count ≡ true → IsDataLength (count - 20)
csdu_length_is count long fits = grind (arith, nat_tests)

csdu_length_fits : (count n : ℕ) → count ≡ n + 20 → IsDataLength n → length_fits count ≡ true
csdu_length_fits count n is fits = grind (arith, nat_tests)

frame_is : (frame : ℕ) → frame_fits frame ≡ true → IsWithin 256 4095 frame
frame_is frame fits = grind (arith, nat_tests)

frame_in_range : (frame : ℕ) → IsWithin 256 4095 frame → frame_fits frame ≡ true
frame_in_range frame within = grind (arith, nat_tests)

eqb_is : (a b : ℕ) → (a == b) ≡ true → a ≡ b
eqb_is a b e = grind (arith, nat_tests)

is_eqb : (a b : ℕ) → a ≡ b → (a == b) ≡ true
is_eqb a b e = grind (arith, nat_tests)

pub read_fields : (bytes : List ℕ) → IsBytes bytes → fault_of bytes ≡ None → Spells bytes (placed_fields bytes)
read_fields bytes small none =
    let passed = no_fault bytes none in
    let long : 20 ≤ length bytes = omega (arith, passed.0) in
    let long_csdu : length (take (length bytes - 20) (drop 16 bytes)) ≡ length bytes - 20 =
    length-take-le (length bytes - 20) (drop 16 bytes) (omega (arith, length-drop 16 bytes)) in
    let Fit : ℕ → Type 0 = λ n. IsDataLength n in record {
      valid = record {
        destination = length-take-le 6 bytes (omega arith);
        source = length-take-le 6 (drop 6 bytes) (omega (arith, length-drop 6 bytes));
        frame = frame_is (big_number 2 (drop 14 bytes)) passed.3;
        csdu = subst Fit (sym long_csdu) (csdu_length_is (length bytes) passed.0 passed.1);
        counter = word-lt 2 (drop (length bytes - 4) bytes) (IsBytes-drop (length bytes - 4) bytes small);
        status = small (length bytes - 2);
      };
      layout =
          laid_out bytes small long (eqb_is (big_number 2 (drop 12 bytes)) ETHERTYPE passed.2)
          (eqb_is (slice_index bytes (length bytes - 1)) 0 passed.4);
    }

module _ (bytes : List ℕ) (f : Fields) (spells : Spells bytes f) where
  after_csdu : List ℕ
  after_csdu = big_bytes 2 f.counter ++ f.status ∷ 0 ∷ []

  after_frame : List ℕ
  after_frame = f.csdu ++ after_csdu

  after_ethertype : List ℕ
  after_ethertype = big_bytes 2 f.frame ++ after_frame

  after_source : List ℕ
  after_source = big_bytes 2 ETHERTYPE ++ after_ethertype

  after_destination : List ℕ
  after_destination = f.source ++ after_source

  layout_is : bytes ≡ f.destination ++ after_destination
  unfolding after_csdu after_frame after_ethertype after_source after_destination
  layout_is = spells.layout

  count_is : length bytes ≡ length f.csdu + 20
  unfolding after_csdu after_frame after_ethertype after_source after_destination
  count_is =
      omega (
        arith,
        ap length layout_is,
        length-append f.destination after_destination,
        length-append f.source after_source,
        length-append f.csdu after_csdu,
        spells.valid.destination,
        spells.valid.source,
      )

  from_6 : drop 6 bytes ≡ after_destination
  from_6 = ap (drop 6) layout_is ∙ drop_at f.destination after_destination 6 spells.valid.destination

  from_12 : drop 12 bytes ≡ after_source
  unfolding after_destination
  from_12 = sym (drop-drop 6 6 bytes) ∙ ap (drop 6) from_6 ∙ drop_at f.source after_source 6 spells.valid.source

  from_14 : drop 14 bytes ≡ after_ethertype
  unfolding after_source
  from_14 = sym (drop-drop 2 12 bytes) ∙ ap (drop 2) from_12 ∙ drop_at (big_bytes 2 ETHERTYPE) after_ethertype 2 refl

  from_16 : drop 16 bytes ≡ after_frame
  unfolding after_ethertype
  from_16 = sym (drop-drop 2 14 bytes) ∙ ap (drop 2) from_14 ∙ drop_at (big_bytes 2 f.frame) after_frame 2 refl

  from_end : drop (length bytes - 4) bytes ≡ after_csdu
  unfolding after_frame
  from_end =
      ap (λ n. drop n bytes) (omega (arith, count_is)) ∙ sym (drop-drop (length f.csdu) 16 bytes) ∙ ap (drop (length f.csdu)) from_16
      ∙ drop_at f.csdu after_csdu (length f.csdu) refl

  byte_at : (k n : ℕ) → length bytes - 4 + k ≡ n → slice_index bytes n ≡ slice_index after_csdu k
  byte_at k n is = ap (slice_index bytes) (sym is) ∙ sym (get_or-drop (length bytes - 4) bytes k 0) ∙ ap (λ l. slice_index l k) from_end

  pub fields_are : placed_fields bytes ≡ f
  unfolding after_csdu after_frame after_ethertype after_source after_destination
  fields_are =
      let destination : take 6 bytes ≡ f.destination =
      ap (take 6) layout_is ∙ take_at f.destination after_destination 6 spells.valid.destination in
      let source : take 6 (drop 6 bytes) ≡ f.source = ap (take 6) from_6 ∙ take_at f.source after_source 6 spells.valid.source in
      let frame_less : f.frame < 256 ^ 2 = omega (arith, spells.valid.frame.1) in
      let frame : big_number 2 (drop 14 bytes) ≡ f.frame = ap (big_number 2) from_14 ∙ big_number-reads_back 2 f.frame after_frame frame_less in
      let csdu : take (length bytes - 20) (drop 16 bytes) ≡ f.csdu =
      ap (take (length bytes - 20)) from_16 ∙ take_at f.csdu after_csdu (length bytes - 20) (omega (arith, count_is)) in
      let counter : big_number 2 (drop (length bytes - 4) bytes) ≡ f.counter =
      ap (big_number 2) from_end ∙ big_number-reads_back 2 f.counter (f.status ∷ 0 ∷ []) spells.valid.counter in
      let status : slice_index bytes (length bytes - 2) ≡ f.status = byte_at 2 (length bytes - 2) (omega (arith, count_is)) in
      λ i. record { destination = destination i; source = source i; frame = frame i; csdu = csdu i; counter = counter i; status = status i }

  pub fault_none : fault_of bytes ≡ None
  unfolding after_csdu after_frame after_ethertype after_source after_destination
  fault_none =
      let ethertype : big_number 2 (drop 12 bytes) ≡ ETHERTYPE =
      ap (big_number 2) from_12 ∙ big_number-reads_back 2 ETHERTYPE after_ethertype (lit< tt) in
      let transfer : slice_index bytes (length bytes - 1) ≡ 0 = byte_at 3 (length bytes - 1) (omega (arith, count_is)) in
      let frame : big_number 2 (drop 14 bytes) ≡ f.frame = ap (λ (r : Fields). r.frame) fields_are in
      let Within : ℕ → Type 0 = λ n. IsWithin 256 4095 n in
      fault_free bytes (omega (arith, count_is, spells.valid.csdu.0.0))
      (csdu_length_fits (length bytes) (length f.csdu) count_is spells.valid.csdu)
      (is_eqb (big_number 2 (drop 12 bytes)) ETHERTYPE ethertype)
      (frame_in_range (big_number 2 (drop 14 bytes)) (subst Within (sym frame) spells.valid.frame))
      (is_eqb (slice_index bytes (length bytes - 1)) 0 transfer)

pub frame_again : (f : Fields) → IsFrame f → fields_at (frame_bytes f) ≡ Ok f
frame_again f valid =
    let spells : Spells (frame_bytes f) f = record { valid = valid; layout = refl } in
    rw (fault_none (frame_bytes f) f spells, fields_are (frame_bytes f) f spells) refl

-- reading a frame and spelling it are one
pub frame_law : ReadingIsSpelling fields_at IsFrame frame_bytes
frame_law =
    one_spelling fields_at IsFrame frame_bytes (λ bytes f are_bytes e.
    let found = no_fault_found (fault_of bytes) (placed_fields bytes) f e in
    let spells : Spells bytes f = subst (λ (g : Fields). Spells bytes g) found.1 (read_fields bytes are_bytes found.0) in
    (spells.valid, spells.layout)) frame_again

-- what a device sends is a frame
pub sent_is_frame : (frame device : ℕ) (csdu : List ℕ) (counter status : ℕ) → IsWithin 256 4095 frame → IsDataLength (length csdu) → counter < 2 ^ 16 → status < 2 ^ 8 →
    IsFrame (sent_fields frame device csdu counter status)
sent_is_frame frame device csdu counter status in_class fits counter_fits status_fits =
    record { destination = refl; source = refl; frame = in_class; csdu = fits; counter = counter_fits; status = status_fits }
