-- A row and what follows its line are determined by the text.
use Rattle.std.proofs.Common.{◌≡◌, ◌<◌, ◌^◌, ℕ, Bool, true, false, List, ◌∷◌, ◌++◌, length, refl, sym, ◌∙◌, ap, arith, append_assoc}
use Rattle.std.proofs.lemmas.List.{append_cancel_left}
use Rattle.std.specs.Prelude.{ℤ, codes}
use Rattle.cycle_rows.specs.Rows.{cycle_of}
use Rattle.cycle_rows.specs.declared.rows.JournalRow.{JournalRow}
use Rattle.cycle_rows.specs.declared.rows.JournalRow.TheVariants.{Occupy, Deliver, Missed, Sent, Refused, Lost, Came}
use Rattle.io_buffers.specs.declared.taken.Taken.{Taken}
use Rattle.irt_base.specs.declared.numbers.DevId.{DevId}
use Rattle.irt_base.specs.declared.numbers.FrameId.{FrameId}
use Rattle.irt_base.specs.declared.numbers.PortNo.{PortNo}
use Rattle.irt_base.specs.declared.plants.Plant.{Plant}
use Rattle.irt_trace.specs.Journal.{begin_of, device_of, end_of_line, field, frame_field, letter_of, name_of, parcel_fields, queue_end, rest_of, row_line, time_field, times_end}
use Rattle.plant_rules.specs.Meets.{MeetsRules}
use Rattle.record_text.specs.Text.{flag_field, taken_fields}
use Rattle.record_laws.specs.Fitting.{HasRange, IsParcelAt, IsRowOf, IsTime}
use Rattle.record_laws.proofs.Fields.{Ends, cut, field_cut, flag_cut, frame_cut, head_same, time_cut}
use Rattle.record_laws.proofs.Names.{name-one, name-plain}

pub two : (a b x : List ℕ) → (a ++ b) ++ x ≡ a ++ (b ++ x)
two a b x = append_assoc a b x

pub three : (a b c x : List ℕ) → (a ++ (b ++ c)) ++ x ≡ a ++ (b ++ (c ++ x))
three a b c x = simp append_assoc

pub left3 : (a b c x : List ℕ) → ((a ++ b) ++ c) ++ x ≡ a ++ (b ++ (c ++ x))
left3 a b c x = simp append_assoc

pub four : (a b c d x : List ℕ) → (a ++ (b ++ (c ++ d))) ++ x ≡ a ++ (b ++ (c ++ (d ++ x)))
four a b c d x = simp append_assoc

five : (a b c d e x : List ℕ) → (a ++ (b ++ (c ++ (d ++ e)))) ++ x ≡ a ++ (b ++ (c ++ (d ++ (e ++ x))))
five a b c d e x = simp append_assoc

-- ---- the parts of lines

pub begin_cut : (plant : Plant) (l m k j d e : ℕ) (x y : List ℕ) → MeetsRules plant → k < 2 ^ 64 → j < 2 ^ 64 → d < length plant.devices → e < length plant.devices →
    Ends x → Ends y → begin_of plant l k d ++ x ≡ begin_of plant m j e ++ y → (l ≡ m) × (k ≡ j) × (d ≡ e) × (x ≡ y)
begin_cut plant l m k j d e x y rules fk fj fd fe ex ey same =
    let (letter, after) = head_same l m ((field k ++ 32 ∷ name_of plant d) ++ x) ((field j ++ 32 ∷ name_of plant e) ++ y) same in
    let (cycle, names) = field_cut k j (32 ∷ (name_of plant d ++ x)) (32 ∷ (name_of plant e ++ y)) fk fj refl refl
    (sym (two (field k) (32 ∷ name_of plant d) x) ∙ after ∙ two (field j) (32 ∷ name_of plant e) y) in
    let (name, left) = cut (name_of plant d) (name_of plant e) x y (name-plain plant d rules) (name-plain plant e rules) ex ey
    (head_same 32 32 (name_of plant d ++ x) (name_of plant e ++ y) names).1 in
    (letter, cycle, name-one plant d e rules fd fe name, left)

pub taken_cut : (t u : Taken) (x y : List ℕ) → t.number < 2 ^ 64 → u.number < 2 ^ 64 → taken_fields t ++ x ≡ taken_fields u ++ y → (t ≡ u) × (x ≡ y)
taken_cut t u x y ft fu same =
    let (number, more) = field_cut t.number u.number (flag_field t.fresh ++ (flag_field t.in_window ++ x)) (flag_field u.fresh ++ (flag_field u.in_window ++ y))
    ft fu (flag-ends t.fresh (flag_field t.in_window ++ x)) (flag-ends u.fresh (flag_field u.in_window ++ y))
    (sym (three (field t.number) (flag_field t.fresh) (flag_field t.in_window) x) ∙ same ∙ three (field u.number) (flag_field u.fresh) (flag_field u.in_window) y) in
    let (fresh, late) = flag_cut t.fresh u.fresh (flag_field t.in_window ++ x) (flag_field u.in_window ++ y) more in
    let (window, left) = flag_cut t.in_window u.in_window x y late in
    (whole t.number u.number t.fresh u.fresh t.in_window u.in_window number fresh window, left)
  where
    flag-ends : (flag : Bool) (z : List ℕ) → Ends (flag_field flag ++ z)
    flag-ends true z = refl
    flag-ends false z = refl

    taken_of : ℕ → Bool → Bool → Taken
    taken_of number fresh window = record { number = number; fresh = fresh; in_window = window }

    whole : (m n : ℕ) (a b c d : Bool) → m ≡ n → a ≡ b → c ≡ d → taken_of m a c ≡ taken_of n b d
    whole m n a b c d p q r = (λ i. taken_of (p i) (q i) (r i))

pub taken-ends : (t : Taken) (z : List ℕ) → Ends (taken_fields t ++ z)
taken-ends t z = refl

times_cut : (a b c d : ℤ) (x y : List ℕ) → IsTime a → IsTime b → IsTime c → IsTime d → times_end a b ++ x ≡ times_end c d ++ y → (a ≡ c) × (b ≡ d) × (x ≡ y)
times_cut a b c d x y fa fb fc fd same =
    let (start, more) = time_cut a c (time_field b ++ (10 ∷ x)) (time_field d ++ (10 ∷ y)) fa fc refl refl
    (sym (left3 (time_field a) (time_field b) end_of_line x) ∙ same ∙ left3 (time_field c) (time_field d) end_of_line y) in
    let (end, left) = time_cut b d (10 ∷ x) (10 ∷ y) fb fd refl refl more in
    (start, end, (head_same 10 10 x y left).1)

parcel_cut : (a b c d : ℕ) (x y : List ℕ) → a < 2 ^ 16 → b < 2 ^ 32 → c < 2 ^ 16 → d < 2 ^ 32 → Ends x → Ends y →
    parcel_fields a b ++ x ≡ parcel_fields c d ++ y → (a ≡ c) × (b ≡ d) × (x ≡ y)
parcel_cut a b c d x y fa fb fc fd ex ey same =
    let (traffic, more) = field_cut a c (field b ++ x) (field d ++ y) (omega arith) (omega arith) refl refl
    (sym (two (field a) (field b) x) ∙ same ∙ two (field c) (field d) y) in
    let (serial, left) = field_cut b d x y (omega arith) (omega arith) ex ey more in
    (traffic, serial, left)

queue_cut : (p q : PortNo) (a b c d : ℕ) (x y : List ℕ) → IsParcelAt p a b → IsParcelAt q c d → queue_end p.0 a b ++ x ≡ queue_end q.0 c d ++ y →
    (p.0 ≡ q.0) × (a ≡ c) × (b ≡ d) × (x ≡ y)
queue_cut p q a b c d x y fp fq same =
    let (port, more) = field_cut p.0 q.0 (parcel_fields a b ++ (10 ∷ x)) (parcel_fields c d ++ (10 ∷ y)) (omega (arith, fp.port)) (omega (arith, fq.port)) refl refl
    (sym (left3 (field p.0) (parcel_fields a b) end_of_line x) ∙ same ∙ left3 (field q.0) (parcel_fields c d) end_of_line y) in
    let (traffic, serial, left) = parcel_cut a b c d (10 ∷ x) (10 ∷ y) fp.entry fp.number fq.entry fq.number refl refl more in
    (port, traffic, serial, (head_same 10 10 x y left).1)

-- ---- rows

pub device_same : (d e : DevId) → d.0 ≡ e.0 → d ≡ e
device_same d e same = ap (λ (n : ℕ). of n) same
  where
    of : ℕ → DevId
    of n = record { 0 = n }

port_same : (p q : PortNo) → p.0 ≡ q.0 → p ≡ q
port_same p q same = ap (λ (n : ℕ). of n) same
  where
    of : ℕ → PortNo
    of n = record { 0 = n }

frame_same : (f g : FrameId) → f.0 ≡ g.0 → f ≡ g
frame_same f g same = ap (λ (n : ℕ). of n) same
  where
    of : ℕ → FrameId
    of n = record { 0 = n }

-- what follows the begin of a row's line
rest_cut : (r s : JournalRow) (x y : List ℕ) → HasRange r → HasRange s → letter_of r ≡ letter_of s → cycle_of r ≡ cycle_of s → device_of r ≡ device_of s →
    rest_of r ++ x ≡ rest_of s ++ y → (r ≡ s) × (x ≡ y)
rest_cut (Occupy k d p f start end) (Occupy j e q g from to) x y fr fs letter cycle device same =
    let (port, more) = field_cut p.0 q.0 (frame_field f.0 ++ (times_end start end ++ x)) (frame_field g.0 ++ (times_end from to ++ y)) (omega (arith, fr.0)) (omega (arith, fs.0)) refl refl
    (sym (left3 (field p.0) (frame_field f.0) (times_end start end) x) ∙ same ∙ left3 (field q.0) (frame_field g.0) (times_end from to) y) in
    let (frame, late) = frame_cut f.0 g.0 (times_end start end ++ x) (times_end from to ++ y) fr.1 fs.1 refl refl more in
    let (starts, ends, left) = times_cut start end from to x y fr.2 fr.3 fs.2 fs.3 late in
    let ports = port_same p q port in
    let frames = frame_same f g frame in
    ((λ i. Occupy (cycle i) (device i) (ports i) (frames i) (starts i) (ends i)), left)
rest_cut (Deliver k d f end) (Deliver j e g to) x y fr fs letter cycle device same =
    let (frame, late) = frame_cut f.0 g.0 (time_field end ++ (10 ∷ x)) (time_field to ++ (10 ∷ y)) fr.0 fs.0 refl refl
    (sym (left3 (frame_field f.0) (time_field end) end_of_line x) ∙ same ∙ left3 (frame_field g.0) (time_field to) end_of_line y) in
    let (ends, left) = time_cut end to (10 ∷ x) (10 ∷ y) fr.1 fs.1 refl refl late in
    let frames = frame_same f g frame in
    ((λ i. Deliver (cycle i) (device i) (frames i) (ends i)), (head_same 10 10 x y left).1)
rest_cut (Missed k d f) (Missed j e g) x y fr fs letter cycle device same =
    let (frame, late) = frame_cut f.0 g.0 (codes " step\n" ++ x) (codes " step\n" ++ y) fr fs refl refl
    (sym (two (frame_field f.0) (codes " step\n") x) ∙ same ∙ two (frame_field g.0) (codes " step\n") y) in
    let frames = frame_same f g frame in
    ((λ i. Missed (cycle i) (device i) (frames i)), append_cancel_left (codes " step\n") x y late)
rest_cut (Sent k d p a b start end) (Sent j e q c n from to) x y fr fs letter cycle device same =
    let (port, more) = field_cut p.0 q.0 (parcel_fields a b ++ (times_end start end ++ x)) (parcel_fields c n ++ (times_end from to ++ y)) (omega (arith, fr.0.port)) (omega (arith, fs.0.port)) refl refl
    (sym (left3 (field p.0) (parcel_fields a b) (times_end start end) x) ∙ same ∙ left3 (field q.0) (parcel_fields c n) (times_end from to) y) in
    let (traffic, serial, late) = parcel_cut a b c n (times_end start end ++ x) (times_end from to ++ y) fr.0.entry fr.0.number fs.0.entry fs.0.number refl refl more in
    let (starts, ends, left) = times_cut start end from to x y fr.1 fr.2 fs.1 fs.2 late in
    let ports = port_same p q port in
    ((λ i. Sent (cycle i) (device i) (ports i) (traffic i) (serial i) (starts i) (ends i)), left)
rest_cut (Refused k d p a b) (Refused j e q c n) x y fr fs letter cycle device same =
    let (port, traffic, serial, left) = queue_cut p q a b c n x y fr fs same in
    let ports = port_same p q port in
    ((λ i. Refused (cycle i) (device i) (ports i) (traffic i) (serial i)), left)
rest_cut (Lost k d p a b) (Lost j e q c n) x y fr fs letter cycle device same =
    let (port, traffic, serial, left) = queue_cut p q a b c n x y fr fs same in
    let ports = port_same p q port in
    ((λ i. Lost (cycle i) (device i) (ports i) (traffic i) (serial i)), left)
rest_cut (Came k d a b) (Came j e c n) x y fr fs letter cycle device same =
    let (traffic, serial, late) = parcel_cut a b c n (10 ∷ x) (10 ∷ y) fr.0 fr.1 fs.0 fs.1 refl refl
    (sym (two (parcel_fields a b) end_of_line x) ∙ same ∙ two (parcel_fields c n) end_of_line y) in
    ((λ i. Came (cycle i) (device i) (traffic i) (serial i)), (head_same 10 10 x y late).1)
rest_cut r s x y fr fs letter cycle device same = absurd (omega arith)

pub rest-ends : (r : JournalRow) (x : List ℕ) → Ends (rest_of r ++ x)
rest-ends (Occupy k d p f start end) x = refl
rest-ends (Deliver k d f end) x = refl
rest-ends (Missed k d f) x = refl
rest-ends (Sent k d p traffic serial start end) x = refl
rest-ends (Refused k d p traffic serial) x = refl
rest-ends (Lost k d p traffic serial) x = refl
rest-ends (Came k d traffic serial) x = refl

pub row_cut : (plant : Plant) (cycles others : ℕ) (r s : JournalRow) (x y : List ℕ) → MeetsRules plant → cycles < 2 ^ 64 → others < 2 ^ 64 → IsRowOf plant cycles r → IsRowOf plant others s →
    row_line plant r ++ x ≡ row_line plant s ++ y → (r ≡ s) × (x ≡ y)
row_cut plant cycles others r s x y rules fc fo fr fs same =
    let (letter, cycle, device, late) = begin_cut plant (letter_of r) (letter_of s) (cycle_of r) (cycle_of s) (device_of r).0 (device_of s).0 (rest_of r ++ x) (rest_of s ++ y)
    rules (omega (arith, fr.cycle)) (omega (arith, fs.cycle)) fr.device fs.device (rest-ends r x) (rest-ends s y)
    (sym (two (begin_of plant (letter_of r) (cycle_of r) (device_of r).0) (rest_of r) x) ∙ same ∙ two (begin_of plant (letter_of s) (cycle_of s) (device_of s).0) (rest_of s) y) in
    rest_cut r s x y fr.range fs.range letter cycle (device_same (device_of r) (device_of s) device) late
