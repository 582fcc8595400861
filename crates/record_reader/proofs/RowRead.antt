-- A row is read from its line, and only from it.
use Rattle.std.proofs.Common.{◌≡◌, ◌<◌, ◌^◌, ◌==◌, ℕ, ℤ, Bool, true, false, List, [], ◌∷◌, ◌++◌, length, Option, Some, None, refl, sym, ◌∙◌, ap, subst, inl, inr}
use Rattle.std.specs.Prelude.{◌⊎◌, if◌then◌else◌, codes}
use Rattle.std.proofs.lemmas.Bool.{eqb-true}
use Rattle.std.proofs.lemmas.Option.{none-some, same_Some}
use Rattle.cycle_rows.specs.Rows.{cycle_of}
use Rattle.cycle_rows.specs.declared.rows.JournalRow.{JournalRow}
use Rattle.cycle_rows.specs.declared.rows.JournalRow.TheVariants.{Occupy, Deliver, Missed, Sent, Refused, Lost, Came}
use Rattle.irt_base.specs.declared.numbers.DevId.{DevId}
use Rattle.irt_base.specs.declared.numbers.FrameId.{FrameId}
use Rattle.irt_base.specs.declared.numbers.PortNo.{PortNo}
use Rattle.irt_base.specs.declared.plants.Plant.{Plant}
use Rattle.irt_trace.specs.Journal.{begin_of, device_of, end_of_line, field, frame_field, letter_of, name_of, parcel_fields, queue_end, rest_of, row_line, time_field, times_end}
use Rattle.plant_rules.specs.Meets.{MeetsRules}
use Rattle.record_laws.specs.Fitting.{HasRange, IsRowOf}
use Rattle.record_laws.proofs.RowCut.{left3, rest-ends, two}
use Rattle.record_reader.specs.Reading.{after_byte, after_bytes, begin_read, came_read, deliver_read, frame_read, lost_read, missed_read, occupy_read, parcel_read, port_read, queue_read, refused_read, row_read, row_rest_read, sent_read, time_read, times_read}
use Rattle.record_reader.proofs.Values.{bind_some}
use Rattle.record_reader.proofs.FieldsRead.{bind-again, byte_taken, frame_read-again, frame_read-taken, port_read-again, port_read-taken, time_read-again, time_read-taken}
use Rattle.record_reader.proofs.PartsRead.{begin-again, begin-taken, parcel-again, parcel-taken, queue-again, queue-taken, times-again, times-taken}

-- what is read after a row's begin
pub record IsRest (letter cycle : ℕ) (device : DevId) (bytes : List ℕ) (y : JournalRow × List ℕ) : Type 0 where
  pub letter_is : letter_of y.0 ≡ letter
  pub cycle_is : cycle_of y.0 ≡ cycle
  pub device_is : device_of y.0 ≡ device
  pub range : HasRange y.0
  pub text : bytes ≡ rest_of y.0 ++ y.1

rest_same : (letter cycle : ℕ) (device : DevId) (bytes : List ℕ) (x y : JournalRow × List ℕ) → Some x ≡ Some y → IsRest letter cycle device bytes x → IsRest letter cycle device bytes y
rest_same letter cycle device bytes x y same is = subst (IsRest letter cycle device bytes) (same_Some x y same) is

-- ---- what is written is read

occupy-again : (k : ℕ) (d : DevId) (p : PortNo) (f : FrameId) (start end : ℤ) (rest : List ℕ) → HasRange (Occupy k d p f start end) →
    occupy_read k d (rest_of (Occupy k d p f start end) ++ rest) ≡ Some (Occupy k d p f start end, rest)
unfolding occupy_read
occupy-again k d p f start end rest fits =
    ap (occupy_read k d) (left3 (field p.0) (frame_field f.0) (times_end start end) rest)
    ∙ bind-again (port_read (field p.0 ++ (frame_field f.0 ++ (times_end start end ++ rest)))) _ (p, frame_field f.0 ++ (times_end start end ++ rest)) (Some (Occupy k d p f start end, rest))
    (port_read-again p (frame_field f.0 ++ (times_end start end ++ rest)) fits.0 refl)
    (bind-again (frame_read (frame_field f.0 ++ (times_end start end ++ rest))) _ (f, times_end start end ++ rest) (Some (Occupy k d p f start end, rest))
    (frame_read-again f (times_end start end ++ rest) fits.1 refl)
    (bind-again (times_read (times_end start end ++ rest)) _ ((start, end), rest) (Some (Occupy k d p f start end, rest)) (times-again start end rest fits.2 fits.3) refl))

deliver-again : (k : ℕ) (d : DevId) (f : FrameId) (end : ℤ) (rest : List ℕ) → HasRange (Deliver k d f end) →
    deliver_read k d (rest_of (Deliver k d f end) ++ rest) ≡ Some (Deliver k d f end, rest)
unfolding deliver_read
deliver-again k d f end rest fits =
    ap (deliver_read k d) (left3 (frame_field f.0) (time_field end) end_of_line rest)
    ∙ bind-again (frame_read (frame_field f.0 ++ (time_field end ++ 10 ∷ rest))) _ (f, time_field end ++ 10 ∷ rest) (Some (Deliver k d f end, rest))
    (frame_read-again f (time_field end ++ 10 ∷ rest) fits.0 refl)
    (bind-again (time_read (time_field end ++ 10 ∷ rest)) _ (end, 10 ∷ rest) (Some (Deliver k d f end, rest)) (time_read-again end (10 ∷ rest) fits.1 refl) refl)

missed-again : (k : ℕ) (d : DevId) (f : FrameId) (rest : List ℕ) → HasRange (Missed k d f) → missed_read k d (rest_of (Missed k d f) ++ rest) ≡ Some (Missed k d f, rest)
unfolding missed_read
missed-again k d f rest fits =
    ap (missed_read k d) (two (frame_field f.0) (codes " step\n") rest)
    ∙ bind-again (frame_read (frame_field f.0 ++ (codes " step\n" ++ rest))) _ (f, codes " step\n" ++ rest) (Some (Missed k d f, rest))
    (frame_read-again f (codes " step\n" ++ rest) fits refl) refl

sent-again : (k : ℕ) (d : DevId) (p : PortNo) (traffic serial : ℕ) (start end : ℤ) (rest : List ℕ) → HasRange (Sent k d p traffic serial start end) →
    sent_read k d (rest_of (Sent k d p traffic serial start end) ++ rest) ≡ Some (Sent k d p traffic serial start end, rest)
unfolding sent_read
sent-again k d p traffic serial start end rest fits =
    ap (sent_read k d) (left3 (field p.0) (parcel_fields traffic serial) (times_end start end) rest)
    ∙ bind-again (port_read (field p.0 ++ (parcel_fields traffic serial ++ (times_end start end ++ rest)))) _ (p, parcel_fields traffic serial ++ (times_end start end ++ rest))
    (Some (Sent k d p traffic serial start end, rest)) (port_read-again p (parcel_fields traffic serial ++ (times_end start end ++ rest)) fits.0.port refl)
    (bind-again (parcel_read (parcel_fields traffic serial ++ (times_end start end ++ rest))) _ ((traffic, serial), times_end start end ++ rest) (Some (Sent k d p traffic serial start end, rest))
    (parcel-again traffic serial (times_end start end ++ rest) fits.0.entry fits.0.number refl)
    (bind-again (times_read (times_end start end ++ rest)) _ ((start, end), rest) (Some (Sent k d p traffic serial start end, rest)) (times-again start end rest fits.1 fits.2) refl))

came-again : (k : ℕ) (d : DevId) (traffic serial : ℕ) (rest : List ℕ) → HasRange (Came k d traffic serial) → came_read k d (rest_of (Came k d traffic serial) ++ rest) ≡ Some (Came k d traffic serial, rest)
unfolding came_read
came-again k d traffic serial rest fits =
    ap (came_read k d) (two (parcel_fields traffic serial) end_of_line rest)
    ∙ bind-again (parcel_read (parcel_fields traffic serial ++ 10 ∷ rest)) _ ((traffic, serial), 10 ∷ rest) (Some (Came k d traffic serial, rest))
    (parcel-again traffic serial (10 ∷ rest) fits.0 fits.1 refl) refl

rest-again : (r : JournalRow) (rest : List ℕ) → HasRange r → row_rest_read (letter_of r) (cycle_of r) (device_of r) (rest_of r ++ rest) ≡ Some (r, rest)
rest-again (Occupy k d p f start end) rest fits = occupy-again k d p f start end rest fits
rest-again (Deliver k d f end) rest fits = deliver-again k d f end rest fits
rest-again (Missed k d f) rest fits = missed-again k d f rest fits
rest-again (Sent k d p traffic serial start end) rest fits = sent-again k d p traffic serial start end rest fits
rest-again (Refused k d p traffic serial) rest fits =
    bind-again (queue_read (queue_end p.0 traffic serial ++ rest)) (λ x. Some (Refused k d x.0.0 x.0.1 x.0.2, x.1)) ((p, traffic, serial), rest) (Some (Refused k d p traffic serial, rest)) (queue-again p traffic serial rest fits) refl
rest-again (Lost k d p traffic serial) rest fits =
    bind-again (queue_read (queue_end p.0 traffic serial ++ rest)) (λ x. Some (Lost k d x.0.0 x.0.1 x.0.2, x.1)) ((p, traffic, serial), rest) (Some (Lost k d p traffic serial, rest)) (queue-again p traffic serial rest fits) refl
rest-again (Came k d traffic serial) rest fits = came-again k d traffic serial rest fits

-- ---- what is read is written

occupy-taken : (k : ℕ) (d : DevId) (bytes : List ℕ) (y : JournalRow × List ℕ) → occupy_read k d bytes ≡ Some y → IsRest 111 k d bytes y
unfolding occupy_read
occupy-taken k d bytes y is =
    let (port, a, m) = bind_some (port_read bytes) _ y is in
    let (frame, b, n) = bind_some (frame_read port.1) _ y m in
    let (times, c, o) = bind_some (times_read frame.1) _ y n in
    let (fa, ta) = port_read-taken bytes port a in
    let (fb, tb) = frame_read-taken port.1 frame b in
    let (fc, fd, tc) = times-taken frame.1 times c in
    rest_same 111 k d bytes (Occupy k d port.0 frame.0 times.0.0 times.0.1, times.1) y o
    (record {
      letter_is = refl;
      cycle_is = refl;
      device_is = refl;
      range = (fa, fb, fc, fd);
      text = ta ∙ (ap (λ r. field port.0.0 ++ r) (tb ∙ ap (λ r. frame_field frame.0.0 ++ r) tc) ∙ sym (left3 (field port.0.0) (frame_field frame.0.0) (times_end times.0.0 times.0.1) times.1));
    })

deliver-taken : (k : ℕ) (d : DevId) (bytes : List ℕ) (y : JournalRow × List ℕ) → deliver_read k d bytes ≡ Some y → IsRest 100 k d bytes y
unfolding deliver_read
deliver-taken k d bytes y is =
    let (frame, a, m) = bind_some (frame_read bytes) _ y is in
    let (end, b, n) = bind_some (time_read frame.1) _ y m in
    let (rest, c, o) = bind_some (after_byte 10 end.1) _ y n in
    let (fa, ta) = frame_read-taken bytes frame a in
    let (fb, tb) = time_read-taken frame.1 end b in
    rest_same 100 k d bytes (Deliver k d frame.0 end.0, rest) y o
    (record {
      letter_is = refl;
      cycle_is = refl;
      device_is = refl;
      range = (fa, fb);
      text = ta ∙ (ap (λ r. frame_field frame.0.0 ++ r) (tb ∙ ap (λ r. time_field end.0 ++ r) (byte_taken 10 end.1 rest c)) ∙ sym (left3 (frame_field frame.0.0) (time_field end.0) end_of_line rest));
    })

pub after-taken : (bs bytes rest : List ℕ) → after_bytes bs bytes ≡ Some rest → bytes ≡ bs ++ rest
after-taken [] bytes rest is = same_Some bytes rest is
after-taken (b ∷ bs) bytes rest is =
    let (more, first, next) = bind_some (after_byte b bytes) (after_bytes bs) rest is in
    byte_taken b bytes more first ∙ ap (λ t. b ∷ t) (after-taken bs more rest next)

missed-taken : (k : ℕ) (d : DevId) (bytes : List ℕ) (y : JournalRow × List ℕ) → missed_read k d bytes ≡ Some y → IsRest 120 k d bytes y
unfolding missed_read
missed-taken k d bytes y is =
    let (frame, a, m) = bind_some (frame_read bytes) _ y is in
    let (rest, b, n) = bind_some (after_bytes (32 ∷ 115 ∷ 116 ∷ 101 ∷ 112 ∷ 10 ∷ []) frame.1) _ y m in
    let (fa, ta) = frame_read-taken bytes frame a in
    rest_same 120 k d bytes (Missed k d frame.0, rest) y n
    (record {
      letter_is = refl;
      cycle_is = refl;
      device_is = refl;
      range = fa;
      text = ta ∙ (ap (λ r. frame_field frame.0.0 ++ r) (after-taken (32 ∷ 115 ∷ 116 ∷ 101 ∷ 112 ∷ 10 ∷ []) frame.1 rest b) ∙ sym (two (frame_field frame.0.0) (codes " step\n") rest));
    })

sent-taken : (k : ℕ) (d : DevId) (bytes : List ℕ) (y : JournalRow × List ℕ) → sent_read k d bytes ≡ Some y → IsRest 116 k d bytes y
unfolding sent_read
sent-taken k d bytes y is =
    let (port, a, m) = bind_some (port_read bytes) _ y is in
    let (parcel, b, n) = bind_some (parcel_read port.1) _ y m in
    let (times, c, o) = bind_some (times_read parcel.1) _ y n in
    let (fa, ta) = port_read-taken bytes port a in
    let (fb, fc, tb) = parcel-taken port.1 parcel b in
    let (fd, fe, tc) = times-taken parcel.1 times c in
    rest_same 116 k d bytes (Sent k d port.0 parcel.0.0 parcel.0.1 times.0.0 times.0.1, times.1) y o
    (record {
      letter_is = refl;
      cycle_is = refl;
      device_is = refl;
      range = (record { port = fa; entry = fb; number = fc }, fd, fe);
      text = ta ∙ (ap (λ r. field port.0.0 ++ r) (tb ∙ ap (λ r. parcel_fields parcel.0.0 parcel.0.1 ++ r) tc)
          ∙ sym (left3 (field port.0.0) (parcel_fields parcel.0.0 parcel.0.1) (times_end times.0.0 times.0.1) times.1));
    })

refused-taken : (k : ℕ) (d : DevId) (bytes : List ℕ) (y : JournalRow × List ℕ) → refused_read k d bytes ≡ Some y → IsRest 113 k d bytes y
refused-taken k d bytes y is =
    let (x, a, m) = bind_some (queue_read bytes) (λ x. Some (Refused k d x.0.0 x.0.1 x.0.2, x.1)) y is in
    let (fa, ta) = queue-taken bytes x a in
    rest_same 113 k d bytes (Refused k d x.0.0 x.0.1 x.0.2, x.1) y m (record { letter_is = refl; cycle_is = refl; device_is = refl; range = fa; text = ta })

lost-taken : (k : ℕ) (d : DevId) (bytes : List ℕ) (y : JournalRow × List ℕ) → lost_read k d bytes ≡ Some y → IsRest 108 k d bytes y
lost-taken k d bytes y is =
    let (x, a, m) = bind_some (queue_read bytes) (λ x. Some (Lost k d x.0.0 x.0.1 x.0.2, x.1)) y is in
    let (fa, ta) = queue-taken bytes x a in
    rest_same 108 k d bytes (Lost k d x.0.0 x.0.1 x.0.2, x.1) y m (record { letter_is = refl; cycle_is = refl; device_is = refl; range = fa; text = ta })

came-taken : (k : ℕ) (d : DevId) (bytes : List ℕ) (y : JournalRow × List ℕ) → came_read k d bytes ≡ Some y → IsRest 97 k d bytes y
unfolding came_read
came-taken k d bytes y is =
    let (parcel, a, m) = bind_some (parcel_read bytes) _ y is in
    let (rest, b, n) = bind_some (after_byte 10 parcel.1) _ y m in
    let (fa, fb, ta) = parcel-taken bytes parcel a in
    rest_same 97 k d bytes (Came k d parcel.0.0 parcel.0.1, rest) y n
    (record {
      letter_is = refl;
      cycle_is = refl;
      device_is = refl;
      range = (fa, fb);
      text = ta ∙ (ap (λ r. parcel_fields parcel.0.0 parcel.0.1 ++ r) (byte_taken 10 parcel.1 rest b) ∙ sym (two (parcel_fields parcel.0.0 parcel.0.1) end_of_line rest));
    })

-- one of two ways was taken
pub chosen : {A : Type 0} (b : Bool) (x y : Option A) (z : A) → (if b then x else y) ≡ Some z → ((b ≡ true) × (x ≡ Some z)) ⊎ ((b ≡ false) × (y ≡ Some z))
chosen true x y z is = inl (refl, is)
chosen false x y z is = inr (refl, is)

of_letter : (letter right cycle : ℕ) (device : DevId) (bytes : List ℕ) (y : JournalRow × List ℕ) → (letter == right) ≡ true → IsRest right cycle device bytes y → IsRest letter cycle device bytes y
of_letter letter right cycle device bytes y test is = subst (λ n. IsRest n cycle device bytes y) (sym (eqb-true letter right test)) is

rest-taken : (letter cycle : ℕ) (device : DevId) (bytes : List ℕ) (y : JournalRow × List ℕ) → row_rest_read letter cycle device bytes ≡ Some y → IsRest letter cycle device bytes y
rest-taken letter k d bytes y is =
    elim (chosen (letter == 111) (occupy_read k d bytes) _ y is) [
      | inl x ↦ of_letter letter 111 k d bytes y x.0 (occupy-taken k d bytes y x.1)
      | inr no_occupy ↦
          elim (chosen (letter == 100) (deliver_read k d bytes) _ y no_occupy.1) [
            | inl x ↦ of_letter letter 100 k d bytes y x.0 (deliver-taken k d bytes y x.1)
            | inr no_deliver ↦
                elim (chosen (letter == 120) (missed_read k d bytes) _ y no_deliver.1) [
                  | inl x ↦ of_letter letter 120 k d bytes y x.0 (missed-taken k d bytes y x.1)
                  | inr no_missed ↦
                      elim (chosen (letter == 116) (sent_read k d bytes) _ y no_missed.1) [
                        | inl x ↦ of_letter letter 116 k d bytes y x.0 (sent-taken k d bytes y x.1)
                        | inr no_sent ↦
                            elim (chosen (letter == 113) (refused_read k d bytes) _ y no_sent.1) [
                              | inl x ↦ of_letter letter 113 k d bytes y x.0 (refused-taken k d bytes y x.1)
                              | inr no_refused ↦
                                  elim (chosen (letter == 108) (lost_read k d bytes) _ y no_refused.1) [
                                    | inl x ↦ of_letter letter 108 k d bytes y x.0 (lost-taken k d bytes y x.1)
                                    | inr no_lost ↦
                                        elim (chosen (letter == 97) (came_read k d bytes) None y no_lost.1) [
                                          | inl x ↦ of_letter letter 97 k d bytes y x.0 (came-taken k d bytes y x.1)
                                          | inr no_came ↦ absurd (none-some y no_came.1)
                                        ]
                                  ]
                            ]
                      ]
                ]
          ]
    ]

-- ---- a row's line, after its letter

pub row-again : (plant : Plant) (r : JournalRow) (rest : List ℕ) → MeetsRules plant → IsRowOf plant (2 ^ 32) r →
    row_read plant (letter_of r) ((field (cycle_of r) ++ 32 ∷ name_of plant (device_of r).0) ++ (rest_of r ++ rest)) ≡ Some (r, rest)
unfolding row_read
row-again plant r rest rules fits =
    bind-again (begin_read plant ((field (cycle_of r) ++ 32 ∷ name_of plant (device_of r).0) ++ (rest_of r ++ rest))) _ ((cycle_of r, device_of r), rest_of r ++ rest) (Some (r, rest))
    (begin-again plant (cycle_of r) (device_of r) (rest_of r ++ rest) rules fits.cycle fits.device (rest-ends r rest)) (rest-again r rest fits.range)

pub row-taken : (plant : Plant) (letter : ℕ) (bytes : List ℕ) (y : JournalRow × List ℕ) → row_read plant letter bytes ≡ Some y →
    IsRowOf plant (2 ^ 32) y.0 × (letter ∷ bytes ≡ row_line plant y.0 ++ y.1)
unfolding row_read
row-taken plant letter bytes y is =
    let (x, a, m) = bind_some (begin_read plant bytes) (λ x. row_rest_read letter x.0.0 x.0.1 x.1) y is in
    let (few, there, text) = begin-taken plant bytes x a in
    let more = rest-taken letter x.0.0 x.0.1 x.1 y m in (
      record {
        cycle = subst (λ k. k < 2 ^ 32) (sym more.cycle_is) few;
        device = subst (λ (d : DevId). d.0 < length plant.devices) (sym more.device_is) there;
        range = more.range;
      },
      (λ i. sym more.letter_is i ∷ text i)
          ∙ ((λ i. letter_of y.0 ∷ ((field (sym more.cycle_is i) ++ 32 ∷ name_of plant (sym more.device_is i).0) ++ more.text i))
          ∙ sym (two (begin_of plant (letter_of y.0) (cycle_of y.0) (device_of y.0).0) (rest_of y.0) y.1)),
    )
