-- Bytes that no fault is found in are a message's, and a message's bytes have its fields at their places.
use Rattle.std.proofs.Common.{◌≡◌, ℕ, ◌≤◌, ◌<◌, ◌^◌, ◌==◌, List, [], ◌∷◌, ◌++◌, length, drop, slice_index, Option, Some, None, Ok, ◌⊎◌, inl, inr, refl, sym, ◌∙◌, ap, subst, arith, Bool, true, false, if◌then◌else◌}
use Rattle.ptcp_core.specs.declared.messages.MsgFault.{MsgFault}
use Rattle.ptcp_core.specs.declared.messages.MsgFault.TheVariants.{Empty, BadType}
use Rattle.std.proofs.lemmas.Bool.Decides.{nat_tests}
use Rattle.byteorder.specs.Endian.{big_bytes, big_number}
use Rattle.byteorder.specs.Numbers.{big_number-reads_back}
use Rattle.byte_laws.specs.Spelling.{IsBytes, ReadingIsSpelling}
use Rattle.byte_laws.proofs.Spelling.{one_spelling, no_fault_found}
use Rattle.byte_laws.proofs.Words.{IsBytes-drop, word-lt, word_at, last_word_at}
use Rattle.ptcp_core.specs.declared.messages.TheConstants.{TIME_END}
use Rattle.ptcp_core.specs.declared.messages.Msg.{Msg}
use Rattle.ptcp_core.specs.declared.messages.Msg.TheVariants as kinds
use Rattle.ptcp_core.specs.Messages.{IsMsg, Spells, msg_fault, sync_fault, request_fault, response_fault, placed_msg, msg_at, msg_bytes, sync_at, request_at, response_at}

front_two : (xs : List ℕ) → 2 ≤ length xs → xs ≡ slice_index xs 0 ∷ slice_index xs 1 ∷ drop 2 xs
front_two [] long = absurd (omega arith)
front_two (a ∷ []) long = absurd (omega arith)
front_two (a ∷ b ∷ xs) long = refl

front_four : (xs : List ℕ) → 4 ≤ length xs → xs ≡ slice_index xs 0 ∷ slice_index xs 1 ∷ slice_index xs 2 ∷ slice_index xs 3 ∷ drop 4 xs
front_four [] long = absurd (omega arith)
front_four (a ∷ []) long = absurd (omega arith)
front_four (a ∷ b ∷ []) long = absurd (omega arith)
front_four (a ∷ b ∷ c ∷ []) long = absurd (omega arith)
front_four (a ∷ b ∷ c ∷ d ∷ xs) long = refl

number_fits : (n k : ℕ) (bytes : List ℕ) → IsBytes bytes → big_number n (drop k bytes) < 256 ^ n
number_fits n k bytes fits = word-lt n (drop k bytes) (IsBytes-drop k bytes fits)

pick : (none a b c : Bool) (s q r : Option MsgFault) →
    (if none then Some Empty else if a then s else if b then q else if c then r else Some BadType) ≡ None →
    ((a ≡ true) × (s ≡ None)) ⊎ (((b ≡ true) × (q ≡ None)) ⊎ ((c ≡ true) × (r ≡ None)))
pick true a b c s q r e = absurd (cc)
pick false true b c s q r e = inl (refl, e)
pick false false true c s q r e = inr (inl (refl, e))
pick false false false true s q r e = inr (inr (refl, e))
pick false false false false s q r e = absurd (cc)

eqb_is : (a b : ℕ) → (a == b) ≡ true → a ≡ b
eqb_is a b e = grind (arith, nat_tests)

fault_kind : (bytes : List ℕ) → msg_fault bytes ≡ None →
    ((slice_index bytes 0 ≡ 1) × (sync_fault bytes ≡ None)) ⊎ (((slice_index bytes 0 ≡ 2) × (request_fault bytes ≡ None))
    ⊎ ((slice_index bytes 0 ≡ 3) × (response_fault bytes ≡ None)))
fault_kind bytes e =
    let kind : ℕ = slice_index bytes 0 in
    elim (pick (length bytes == 0) (kind == 1) (kind == 2) (kind == 3) (sync_fault bytes) (request_fault bytes) (response_fault bytes) e) [
      | inl s ↦ inl (eqb_is kind 1 s.0, s.1)
      | inr other ↦
          elim other [ inl q ↦ inr (inl (eqb_is kind 2 q.0, q.1)) | inr r ↦ inr (inr (eqb_is kind 3 r.0, r.1)) ]
    ]

no_sync_fault : (bytes : List ℕ) → sync_fault bytes ≡ None →
    (length bytes ≡ 28) × (slice_index bytes 2 ≡ 0) × (slice_index bytes 3 ≡ 0) × ((sync_at bytes).origin < TIME_END)
    × ((sync_at bytes).correction < TIME_END)
no_sync_fault bytes e = grind (arith, nat_tests)

no_request_fault : (bytes : List ℕ) → request_fault bytes ≡ None → (length bytes ≡ 4) × (slice_index bytes 1 ≡ 0)
no_request_fault bytes e = grind (arith, nat_tests)

no_response_fault : (bytes : List ℕ) → response_fault bytes ≡ None →
    (length bytes ≡ 20) × (slice_index bytes 1 ≡ 0) × ((response_at bytes).t2 < TIME_END) × ((response_at bytes).t3 < TIME_END)
no_response_fault bytes e = grind (arith, nat_tests)

at_sync : (bytes : List ℕ) → slice_index bytes 0 ≡ 1 → placed_msg bytes ≡ kinds.Sync (sync_at bytes)
at_sync bytes e = grind (arith, nat_tests)

at_request : (bytes : List ℕ) → slice_index bytes 0 ≡ 2 → placed_msg bytes ≡ kinds.Request (request_at bytes)
at_request bytes e = grind (arith, nat_tests)

at_response : (bytes : List ℕ) → slice_index bytes 0 ≡ 3 → placed_msg bytes ≡ kinds.Response (response_at bytes)
at_response bytes e = grind (arith, nat_tests)

read_sync : (bytes : List ℕ) → IsBytes bytes → slice_index bytes 0 ≡ 1 → sync_fault bytes ≡ None → Spells bytes (kinds.Sync (sync_at bytes))
read_sync bytes small kind none =
    let ok = no_sync_fault bytes none in
    let long : length bytes ≡ 28 = ok.0 in record {
      times = (ok.3, ok.4);
      sized = (small 1, number_fits 4 4 bytes small, number_fits 4 8 bytes small);
      layout =
          front_four bytes (omega arith)
          ∙ ap (λ b. b ∷ slice_index bytes 1 ∷ slice_index bytes 2 ∷ slice_index bytes 3 ∷ drop 4 bytes) kind
          ∙ ap (λ b. 1 ∷ slice_index bytes 1 ∷ b ∷ slice_index bytes 3 ∷ drop 4 bytes) ok.1
          ∙ ap (λ b. 1 ∷ slice_index bytes 1 ∷ 0 ∷ b ∷ drop 4 bytes) ok.2
          ∙ ap (λ l. 1 ∷ slice_index bytes 1 ∷ 0 ∷ 0 ∷ l)
          (word_at 4 4 bytes (omega arith) small
          ∙ ap (λ l. big_bytes 4 (big_number 4 (drop 4 bytes)) ++ l)
          (word_at 4 8 bytes (omega arith) small
          ∙ ap (λ l. big_bytes 4 (big_number 4 (drop 8 bytes)) ++ l)
          (word_at 8 12 bytes (omega arith) small
          ∙ ap (λ l. big_bytes 8 (big_number 8 (drop 12 bytes)) ++ l) (last_word_at 8 20 bytes long small))));
    }

read_request : (bytes : List ℕ) → IsBytes bytes → slice_index bytes 0 ≡ 2 → request_fault bytes ≡ None →
    Spells bytes (kinds.Request (request_at bytes))
read_request bytes small kind none =
    let ok = no_request_fault bytes none in
    let long : length bytes ≡ 4 = ok.0 in record {
      times = tt;
      sized = number_fits 2 2 bytes small;
      layout =
          front_two bytes (omega arith) ∙ ap (λ b. b ∷ slice_index bytes 1 ∷ drop 2 bytes) kind ∙ ap (λ b. 2 ∷ b ∷ drop 2 bytes) ok.1
          ∙ ap (λ l. 2 ∷ 0 ∷ l) (last_word_at 2 2 bytes long small);
    }

read_response : (bytes : List ℕ) → IsBytes bytes → slice_index bytes 0 ≡ 3 → response_fault bytes ≡ None →
    Spells bytes (kinds.Response (response_at bytes))
read_response bytes small kind none =
    let ok = no_response_fault bytes none in
    let long : length bytes ≡ 20 = ok.0 in record {
      times = (ok.2, ok.3);
      sized = number_fits 2 2 bytes small;
      layout =
          front_two bytes (omega arith) ∙ ap (λ b. b ∷ slice_index bytes 1 ∷ drop 2 bytes) kind ∙ ap (λ b. 3 ∷ b ∷ drop 2 bytes) ok.1
          ∙ ap (λ l. 3 ∷ 0 ∷ l)
          (word_at 2 2 bytes (omega arith) small
          ∙ ap (λ l. big_bytes 2 (big_number 2 (drop 2 bytes)) ++ l)
          (word_at 8 4 bytes (omega arith) small
          ∙ ap (λ l. big_bytes 8 (big_number 8 (drop 4 bytes)) ++ l) (last_word_at 8 12 bytes long small)));
    }

pub read_law : (bytes : List ℕ) → IsBytes bytes → msg_fault bytes ≡ None → Spells bytes (placed_msg bytes)
read_law bytes small none =
    let Spelled : Msg → Type 0 = λ m. Spells bytes m in
    elim (fault_kind bytes none) [
      | inl s ↦ subst Spelled (sym (at_sync bytes s.0)) (read_sync bytes small s.0 s.1)
      | inr other ↦
          elim other [
            | inl q ↦ subst Spelled (sym (at_request bytes q.0)) (read_request bytes small q.0 q.1)
            | inr r ↦ subst Spelled (sym (at_response bytes r.0)) (read_response bytes small r.0 r.1)
          ]
    ]

sync_free : (bytes : List ℕ) → slice_index bytes 0 ≡ 1 → length bytes ≡ 28 → slice_index bytes 2 ≡ 0 → slice_index bytes 3 ≡ 0 →
    (sync_at bytes).origin < TIME_END → (sync_at bytes).correction < TIME_END → msg_fault bytes ≡ None
sync_free bytes a b c d e f = grind (arith, nat_tests)

request_free : (bytes : List ℕ) → slice_index bytes 0 ≡ 2 → length bytes ≡ 4 → slice_index bytes 1 ≡ 0 → msg_fault bytes ≡ None
request_free bytes a b c = grind (arith, nat_tests)

response_free : (bytes : List ℕ) → slice_index bytes 0 ≡ 3 → length bytes ≡ 20 → slice_index bytes 1 ≡ 0 →
    (response_at bytes).t2 < TIME_END → (response_at bytes).t3 < TIME_END → msg_fault bytes ≡ None
response_free bytes a b c d e = grind (arith, nat_tests)

pub spelled : (bytes : List ℕ) (m : Msg) → Spells bytes m → (msg_fault bytes ≡ None) × (placed_msg bytes ≡ m)
spelled bytes (kinds.Sync m) s =
    let is = s.layout in
    let kind : slice_index bytes 0 ≡ 1 = ap (λ l. slice_index l 0) is in
    let hops : slice_index bytes 1 ≡ m.hops = ap (λ l. slice_index l 1) is in
    let number : big_number 4 (drop 4 bytes) ≡ m.number =
    ap (λ l. big_number 4 (drop 4 l)) is
    ∙ big_number-reads_back 4 m.number (big_bytes 4 m.cycle ++ (big_bytes 8 m.origin ++ big_bytes 8 m.correction)) s.sized.1 in
    let cycle : big_number 4 (drop 8 bytes) ≡ m.cycle =
    ap (λ l. big_number 4 (drop 8 l)) is ∙ big_number-reads_back 4 m.cycle (big_bytes 8 m.origin ++ big_bytes 8 m.correction) s.sized.2 in
    let origin : big_number 8 (drop 12 bytes) ≡ m.origin =
    ap (λ l. big_number 8 (drop 12 l)) is ∙ big_number-reads_back 8 m.origin (big_bytes 8 m.correction) (omega (arith, s.times.0)) in
    let correction : big_number 8 (drop 20 bytes) ≡ m.correction =
    ap (λ l. big_number 8 (drop 20 l)) is ∙ big_number-reads_back 8 m.correction [] (omega (arith, s.times.1)) in
    let Time : ℕ → Type 0 = λ t. t < TIME_END in (
      sync_free bytes kind (ap length is) (ap (λ l. slice_index l 2) is) (ap (λ l. slice_index l 3) is)
          (subst Time (sym origin) s.times.0) (subst Time (sym correction) s.times.1),
      at_sync bytes kind
          ∙ (λ i. kinds.Sync (record { number = number i; cycle = cycle i; hops = hops i; origin = origin i; correction = correction i })),
    )
spelled bytes (kinds.Request m) s =
    let is = s.layout in
    let kind : slice_index bytes 0 ≡ 2 = ap (λ l. slice_index l 0) is in
    let number : big_number 2 (drop 2 bytes) ≡ m.number = ap (λ l. big_number 2 (drop 2 l)) is ∙ big_number-reads_back 2 m.number [] s.sized in (
      request_free bytes kind (ap length is) (ap (λ l. slice_index l 1) is),
      at_request bytes kind ∙ (λ i. kinds.Request (record { number = number i })),
    )
spelled bytes (kinds.Response m) s =
    let is = s.layout in
    let kind : slice_index bytes 0 ≡ 3 = ap (λ l. slice_index l 0) is in
    let number : big_number 2 (drop 2 bytes) ≡ m.number =
    ap (λ l. big_number 2 (drop 2 l)) is ∙ big_number-reads_back 2 m.number (big_bytes 8 m.t2 ++ big_bytes 8 m.t3) s.sized in
    let t2 : big_number 8 (drop 4 bytes) ≡ m.t2 =
    ap (λ l. big_number 8 (drop 4 l)) is ∙ big_number-reads_back 8 m.t2 (big_bytes 8 m.t3) (omega (arith, s.times.0)) in
    let t3 : big_number 8 (drop 12 bytes) ≡ m.t3 =
    ap (λ l. big_number 8 (drop 12 l)) is ∙ big_number-reads_back 8 m.t3 [] (omega (arith, s.times.1)) in
    let Time : ℕ → Type 0 = λ t. t < TIME_END in (
      response_free bytes kind (ap length is) (ap (λ l. slice_index l 1) is) (subst Time (sym t2) s.times.0) (subst Time (sym t3) s.times.1),
      at_response bytes kind ∙ (λ i. kinds.Response (record { number = number i; t2 = t2 i; t3 = t3 i })),
    )

msg_again : (m : Msg) → IsMsg m → msg_at (msg_bytes m) ≡ Ok m
msg_again m valid =
    let read = spelled (msg_bytes m) m (record { times = valid.0; sized = valid.1; layout = refl }) in
    rw (read.0, read.1) refl

-- reading a message and spelling it are one
pub msg_law : ReadingIsSpelling msg_at IsMsg msg_bytes
msg_law =
    one_spelling msg_at IsMsg msg_bytes (λ bytes m are_bytes e.
    let found = no_fault_found (msg_fault bytes) (placed_msg bytes) m e in
    let spells : Spells bytes m = subst (λ (n : Msg). Spells bytes n) found.1 (read_law bytes are_bytes found.0) in
    ((spells.times, spells.sized), spells.layout)) msg_again
