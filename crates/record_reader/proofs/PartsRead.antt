-- The parts of lines are read as they are written, and only so.
use Rattle.std.proofs.Common.{◌≡◌, ◌<◌, ◌-◌, ◌^◌, ℕ, zero, suc, ℤ, Bool, true, false, List, [], ◌∷◌, ◌++◌, length, Some, refl, sym, ◌∙◌, ap, subst, arith, append_assoc, append-nil}
use Rattle.std.proofs.lemmas.Option.{same_Some}
use Rattle.io_buffers.specs.declared.taken.Taken.{Taken}
use Rattle.irt_base.specs.declared.numbers.DevId.{DevId}
use Rattle.irt_base.specs.declared.numbers.PortNo.{PortNo}
use Rattle.irt_base.specs.declared.plants.Plant.{Plant}
use Rattle.irt_trace.specs.Journal.{end_of_line, field, name_of, parcel_fields, queue_end, time_field, times_end}
use Rattle.plant_rules.specs.Meets.{MeetsRules}
use Rattle.record_text.specs.Text.{flag_field, taken_fields, word_field, words_text}
use Rattle.record_laws.specs.Fitting.{AreWords, IsParcelAt, IsTime}
use Rattle.record_laws.proofs.Fields.{Ends}
use Rattle.record_laws.proofs.RowCut.{left3, three, two}
use Rattle.record_reader.specs.Reading.{after_byte, begin_read, device_read, flag_read, number_read, parcel_read, port_read, queue_read, taken_read, time_read, times_read, word_read, words_read}
use Rattle.record_reader.proofs.Values.{bind_some}
use Rattle.record_reader.proofs.FieldsRead.{bind-again, byte_taken, device_read-again, device_read-taken, flag_read-again, flag_read-taken, number_read-again, number_read-taken, port_read-again, port_read-taken, time_read-again, time_read-taken, word_read-again, word_read-taken}

-- ---- takes

flag-ends : (flag : Bool) (z : List ℕ) → Ends (flag_field flag ++ z)
flag-ends true z = refl
flag-ends false z = refl

pub taken-again : (t : Taken) (rest : List ℕ) → t.number < 2 ^ 64 → Ends rest → taken_read (taken_fields t ++ rest) ≡ Some (t, rest)
unfolding taken_read
taken-again t rest fits ends =
    ap taken_read (three (field t.number) (flag_field t.fresh) (flag_field t.in_window) rest)
    ∙ bind-again (number_read (2 ^ 64 - 1) (field t.number ++ (flag_field t.fresh ++ (flag_field t.in_window ++ rest)))) _
    (t.number, flag_field t.fresh ++ (flag_field t.in_window ++ rest)) (Some (t, rest))
    (number_read-again (2 ^ 64 - 1) t.number (flag_field t.fresh ++ (flag_field t.in_window ++ rest)) fits (omega arith) (flag-ends t.fresh (flag_field t.in_window ++ rest)))
    (bind-again (flag_read (flag_field t.fresh ++ (flag_field t.in_window ++ rest))) _ (t.fresh, flag_field t.in_window ++ rest) (Some (t, rest))
    (flag_read-again t.fresh (flag_field t.in_window ++ rest) (flag-ends t.in_window rest))
    (bind-again (flag_read (flag_field t.in_window ++ rest)) _ (t.in_window, rest) (Some (t, rest)) (flag_read-again t.in_window rest ends) refl))

pub taken-taken : (bytes : List ℕ) (y : Taken × List ℕ) → taken_read bytes ≡ Some y → (y.0.number < 2 ^ 64) × (bytes ≡ taken_fields y.0 ++ y.1)
unfolding taken_read
taken-taken bytes y is =
    let (number, a, m) = bind_some (number_read (2 ^ 64 - 1) bytes) _ y is in
    let (fresh, b, n) = bind_some (flag_read number.1) _ y m in
    let (window, c, o) = bind_some (flag_read fresh.1) _ y n in
    let (fits, small, text) = number_read-taken (2 ^ 64 - 1) bytes number a in
    let whole = same_Some (made number.0 fresh.0 window.0, window.1) y o in (
      omega (arith, fits, ap (λ (y : Taken × List ℕ). y.0.number) whole),
      text ∙ (ap (λ r. field number.0 ++ r) (flag_read-taken number.1 fresh b ∙ ap (λ r. flag_field fresh.0 ++ r) (flag_read-taken fresh.1 window c))
          ∙ (sym (three (field number.0) (flag_field fresh.0) (flag_field window.0) window.1) ∙ ap (λ (y : Taken × List ℕ). taken_fields y.0 ++ y.1) whole)),
    )
  where
    made : ℕ → Bool → Bool → Taken
    made number fresh window = record { number = number; fresh = fresh; in_window = window }

-- ---- words

pub words-ends : (ws rest : List ℕ) → Ends rest → Ends (words_text ws ++ rest)
words-ends [] rest ends = ends
words-ends (w ∷ ws) rest ends = refl

words-again_after : (acc ws rest : List ℕ) → AreWords ws → Ends rest → words_read (length ws) acc (words_text ws ++ rest) ≡ Some (acc ++ ws, rest)
words-again_after acc [] rest fits ends = ap (λ xs. Some (xs, rest)) (sym (append-nil acc))
words-again_after acc (w ∷ ws) rest fits ends =
    ap (words_read (length (w ∷ ws)) acc) (append_assoc (word_field w) (words_text ws) rest)
    ∙ (bind-again (word_read (word_field w ++ (words_text ws ++ rest))) (λ x. words_read (length ws) (acc ++ x.0 ∷ []) x.1) (w, words_text ws ++ rest) (Some (acc ++ w ∷ ws, rest))
    (word_read-again w (words_text ws ++ rest) fits.0 (words-ends ws rest ends))
    (words-again_after (acc ++ w ∷ []) ws rest fits.1 ends ∙ ap (λ xs. Some (xs, rest)) (append_assoc acc (w ∷ []) ws)))

pub words-again : (count : ℕ) (ws rest : List ℕ) → length ws ≡ count → AreWords ws → Ends rest → words_read count [] (words_text ws ++ rest) ≡ Some (ws, rest)
words-again count ws rest counted fits ends = ap (λ n. words_read n [] (words_text ws ++ rest)) (sym counted) ∙ words-again_after [] ws rest fits ends

pub record AreWordsRead (count : ℕ) (acc bytes : List ℕ) (y : List ℕ × List ℕ) : Type 0 where
  pub words : List ℕ
  pub result : y.0 ≡ acc ++ words
  pub count_is : length words ≡ count
  pub fit : AreWords words
  pub text : bytes ≡ words_text words ++ y.1

words-taken_after : (count : ℕ) (acc bytes : List ℕ) (y : List ℕ × List ℕ) → words_read count acc bytes ≡ Some y → AreWordsRead count acc bytes y
words-taken_after zero acc bytes y is =
    let same = same_Some (acc, bytes) y is in
    record {
      words = [];
      result = ap (λ (y : List ℕ × List ℕ). y.0) (sym same) ∙ sym (append-nil acc);
      count_is = refl;
      fit = tt;
      text = ap (λ (y : List ℕ × List ℕ). y.1) same;
    }
words-taken_after (suc count) acc bytes y is =
    let (x, read, more) = bind_some (word_read bytes) (λ x. words_read count (acc ++ x.0 ∷ []) x.1) y is in
    let (fits, text) = word_read-taken bytes x read in
    let rest = words-taken_after count (acc ++ x.0 ∷ []) x.1 y more in
    record {
      words = x.0 ∷ rest.words;
      result = rest.result ∙ append_assoc acc (x.0 ∷ []) rest.words;
      count_is = ap (λ n. suc n) rest.count_is;
      fit = (fits, rest.fit);
      text = text ∙ (ap (λ t. word_field x.0 ++ t) rest.text ∙ sym (append_assoc (word_field x.0) (words_text rest.words) y.1));
    }

pub words-taken : (count : ℕ) (bytes : List ℕ) (y : List ℕ × List ℕ) → words_read count [] bytes ≡ Some y →
    (length y.0 ≡ count) × AreWords y.0 × (bytes ≡ words_text y.0 ++ y.1)
words-taken count bytes y is =
    let read = words-taken_after count [] bytes y is in
    (ap length read.result ∙ read.count_is, subst AreWords (sym read.result) read.fit, read.text ∙ ap (λ ws. words_text ws ++ y.1) (sym read.result))

-- ---- the begin of a line

pub begin-again : (plant : Plant) (k : ℕ) (d : DevId) (rest : List ℕ) → MeetsRules plant → k < 2 ^ 32 → d.0 < length plant.devices → Ends rest →
    begin_read plant ((field k ++ 32 ∷ name_of plant d.0) ++ rest) ≡ Some ((k, d), rest)
unfolding begin_read
begin-again plant k d rest rules few there ends =
    ap (begin_read plant) (two (field k) (32 ∷ name_of plant d.0) rest)
    ∙ bind-again (number_read (2 ^ 32 - 1) (field k ++ (32 ∷ (name_of plant d.0 ++ rest)))) _ (k, 32 ∷ (name_of plant d.0 ++ rest)) (Some ((k, d), rest))
    (number_read-again (2 ^ 32 - 1) k (32 ∷ (name_of plant d.0 ++ rest)) (omega arith) (omega arith) refl)
    (bind-again (device_read plant (32 ∷ (name_of plant d.0 ++ rest))) _ (d, rest) (Some ((k, d), rest)) (device_read-again plant d rest rules there ends) refl)

pub begin-taken : (plant : Plant) (bytes : List ℕ) (y : (ℕ × DevId) × List ℕ) → begin_read plant bytes ≡ Some y →
    (y.0.0 < 2 ^ 32) × (y.0.1.0 < length plant.devices) × (bytes ≡ (field y.0.0 ++ 32 ∷ name_of plant y.0.1.0) ++ y.1)
unfolding begin_read
begin-taken plant bytes y is =
    let (cycle, a, m) = bind_some (number_read (2 ^ 32 - 1) bytes) _ y is in
    let (device, b, n) = bind_some (device_read plant cycle.1) _ y m in
    let (fits, small, text) = number_read-taken (2 ^ 32 - 1) bytes cycle a in
    let (there, name) = device_read-taken plant cycle.1 device b in
    let whole = same_Some ((cycle.0, device.0), device.1) y n in
    let few : cycle.0 < 2 ^ 32 = omega arith in (
      subst (λ (y : (ℕ × DevId) × List ℕ). y.0.0 < 2 ^ 32) whole few,
      subst (λ (y : (ℕ × DevId) × List ℕ). y.0.1.0 < length plant.devices) whole there,
      text ∙ (ap (λ r. field cycle.0 ++ r) name
          ∙ (sym (two (field cycle.0) (32 ∷ name_of plant device.0.0) device.1) ∙ ap (λ (y : (ℕ × DevId) × List ℕ). (field y.0.0 ++ 32 ∷ name_of plant y.0.1.0) ++ y.1) whole)),
    )

-- ---- parcels and times

pub parcel-again : (traffic serial : ℕ) (rest : List ℕ) → traffic < 2 ^ 16 → serial < 2 ^ 32 → Ends rest → parcel_read (parcel_fields traffic serial ++ rest) ≡ Some ((traffic, serial), rest)
unfolding parcel_read
parcel-again traffic serial rest ft fs ends =
    ap parcel_read (two (field traffic) (field serial) rest)
    ∙ bind-again (number_read (2 ^ 16 - 1) (field traffic ++ (field serial ++ rest))) _ (traffic, field serial ++ rest) (Some ((traffic, serial), rest))
    (number_read-again (2 ^ 16 - 1) traffic (field serial ++ rest) (omega arith) (omega arith) refl)
    (bind-again (number_read (2 ^ 32 - 1) (field serial ++ rest)) _ (serial, rest) (Some ((traffic, serial), rest))
    (number_read-again (2 ^ 32 - 1) serial rest (omega arith) (omega arith) ends) refl)

pub parcel-taken : (bytes : List ℕ) (y : (ℕ × ℕ) × List ℕ) → parcel_read bytes ≡ Some y → (y.0.0 < 2 ^ 16) × (y.0.1 < 2 ^ 32) × (bytes ≡ parcel_fields y.0.0 y.0.1 ++ y.1)
unfolding parcel_read
parcel-taken bytes y is =
    let (traffic, a, m) = bind_some (number_read (2 ^ 16 - 1) bytes) _ y is in
    let (serial, b, n) = bind_some (number_read (2 ^ 32 - 1) traffic.1) _ y m in
    let (fa, sa, ta) = number_read-taken (2 ^ 16 - 1) bytes traffic a in
    let (fb, sb, tb) = number_read-taken (2 ^ 32 - 1) traffic.1 serial b in
    let whole = same_Some ((traffic.0, serial.0), serial.1) y n in
    let few : traffic.0 < 2 ^ 16 = omega arith in
    let short : serial.0 < 2 ^ 32 = omega arith in (
      subst (λ (y : (ℕ × ℕ) × List ℕ). y.0.0 < 2 ^ 16) whole few,
      subst (λ (y : (ℕ × ℕ) × List ℕ). y.0.1 < 2 ^ 32) whole short,
      ta ∙ (ap (λ r. field traffic.0 ++ r) tb ∙ (sym (two (field traffic.0) (field serial.0) serial.1) ∙ ap (λ (y : (ℕ × ℕ) × List ℕ). parcel_fields y.0.0 y.0.1 ++ y.1) whole)),
    )

pub times-again : (start end : ℤ) (rest : List ℕ) → IsTime start → IsTime end → times_read (times_end start end ++ rest) ≡ Some ((start, end), rest)
unfolding times_read
times-again start end rest fs fe =
    ap times_read (left3 (time_field start) (time_field end) end_of_line rest)
    ∙ bind-again (time_read (time_field start ++ (time_field end ++ 10 ∷ rest))) _ (start, time_field end ++ 10 ∷ rest) (Some ((start, end), rest))
    (time_read-again start (time_field end ++ 10 ∷ rest) fs refl)
    (bind-again (time_read (time_field end ++ 10 ∷ rest)) _ (end, 10 ∷ rest) (Some ((start, end), rest)) (time_read-again end (10 ∷ rest) fe refl) refl)

pub times-taken : (bytes : List ℕ) (y : (ℤ × ℤ) × List ℕ) → times_read bytes ≡ Some y → IsTime y.0.0 × IsTime y.0.1 × (bytes ≡ times_end y.0.0 y.0.1 ++ y.1)
unfolding times_read
times-taken bytes y is =
    let (start, a, m) = bind_some (time_read bytes) _ y is in
    let (end, b, n) = bind_some (time_read start.1) _ y m in
    let (rest, c, o) = bind_some (after_byte 10 end.1) _ y n in
    let (fa, ta) = time_read-taken bytes start a in
    let (fb, tb) = time_read-taken start.1 end b in
    let whole = same_Some ((start.0, end.0), rest) y o in (
      subst (λ (y : (ℤ × ℤ) × List ℕ). IsTime y.0.0) whole fa,
      subst (λ (y : (ℤ × ℤ) × List ℕ). IsTime y.0.1) whole fb,
      ta ∙ (ap (λ r. time_field start.0 ++ r) (tb ∙ ap (λ r. time_field end.0 ++ r) (byte_taken 10 end.1 rest c))
          ∙ (sym (left3 (time_field start.0) (time_field end.0) end_of_line rest) ∙ ap (λ (y : (ℤ × ℤ) × List ℕ). times_end y.0.0 y.0.1 ++ y.1) whole)),
    )

pub queue-again : (p : PortNo) (traffic serial : ℕ) (rest : List ℕ) → IsParcelAt p traffic serial → queue_read (queue_end p.0 traffic serial ++ rest) ≡ Some ((p, traffic, serial), rest)
unfolding queue_read
queue-again p traffic serial rest fits =
    ap queue_read (left3 (field p.0) (parcel_fields traffic serial) end_of_line rest)
    ∙ bind-again (port_read (field p.0 ++ (parcel_fields traffic serial ++ 10 ∷ rest))) _ (p, parcel_fields traffic serial ++ 10 ∷ rest) (Some ((p, traffic, serial), rest))
    (port_read-again p (parcel_fields traffic serial ++ 10 ∷ rest) fits.port refl)
    (bind-again (parcel_read (parcel_fields traffic serial ++ 10 ∷ rest)) _ ((traffic, serial), 10 ∷ rest) (Some ((p, traffic, serial), rest))
    (parcel-again traffic serial (10 ∷ rest) fits.entry fits.number refl) refl)

pub queue-taken : (bytes : List ℕ) (y : (PortNo × ℕ × ℕ) × List ℕ) → queue_read bytes ≡ Some y → IsParcelAt y.0.0 y.0.1 y.0.2 × (bytes ≡ queue_end y.0.0.0 y.0.1 y.0.2 ++ y.1)
unfolding queue_read
queue-taken bytes y is =
    let (port, a, m) = bind_some (port_read bytes) _ y is in
    let (parcel, b, n) = bind_some (parcel_read port.1) _ y m in
    let (rest, c, o) = bind_some (after_byte 10 parcel.1) _ y n in
    let (fa, ta) = port_read-taken bytes port a in
    let (fb, fc, tb) = parcel-taken port.1 parcel b in
    let whole = same_Some ((port.0, parcel.0.0, parcel.0.1), rest) y o in
    let fits : IsParcelAt port.0 parcel.0.0 parcel.0.1 = record { port = fa; entry = fb; number = fc } in (
      subst (λ (y : (PortNo × ℕ × ℕ) × List ℕ). IsParcelAt y.0.0 y.0.1 y.0.2) whole fits,
      ta ∙ (ap (λ r. field port.0.0 ++ r) (tb ∙ ap (λ r. parcel_fields parcel.0.0 parcel.0.1 ++ r) (byte_taken 10 parcel.1 rest c))
          ∙ (sym (left3 (field port.0.0) (parcel_fields parcel.0.0 parcel.0.1) end_of_line rest) ∙ ap (λ (y : (PortNo × ℕ × ℕ) × List ℕ). queue_end y.0.0.0 y.0.1 y.0.2 ++ y.1) whole)),
    )
