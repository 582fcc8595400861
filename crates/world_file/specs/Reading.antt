-- Reading a line from left to right. A reader answers a value and the bytes after it, or nothing where the text is not
-- of the form.
use Rattle.std.specs.Prelude.{◌≡◌, ℕ, zero, suc, ◌+◌, ◌-◌, ◌*◌, ◌==◌, ◌&&◌, nat_le, nat_lt, min, not, ℤ, pos, neg_ℤ, Bool, true, false, if◌then◌else◌, List, [], ◌∷◌, ◌++◌, length, Option, Some, None, Result, Ok, Err}
use Rattle.irt_base.specs.declared.limits.TheConstants.{MAX_ERROR}
use Rattle.irt_base.specs.declared.plants.Device.{Device}
use Rattle.irt_world.specs.declared.forwardings.Forwarding.{Forwarding}
use Rattle.irt_world.specs.declared.rows.Row.{Row}
use Rattle.world_file.specs.declared.draft.Draft.{Draft}
use Rattle.world_file.specs.declared.fault.Form.{Form}
use Rattle.world_file.specs.declared.fault.LineFault.{LineFault}
use Rattle.world_file.specs.declared.fault.LineFault.TheVariants as faults
use Rattle.world_file.specs.declared.fault.WorldFault.{WorldFault}
use Rattle.world_file.specs.declared.fault.WorldFault.TheVariants as refusals
use Rattle.world_file.specs.declared.number.Number.{Number}
use Rattle.world_file.specs.declared.number.TheConstants.{FAR}

-- the first step, and if it succeeds the next
infixl 10 ◌>>=◌
abbrev pub ◌>>=◌ : {A B : Type 0} → Option A → (A → Option B) → Option B
(Some x) >>= f = f x
None >>= f = None

-- What a function returned, seen by view, is what reading gives.
abbrev pub GivesForm : {X Y : Type 0} → (X → Y) → Result X Form → Option Y → Type 0
GivesForm view (Ok x) read = read ≡ Some (view x)
GivesForm view (Err e) read = read ≡ None

-- The same of a function that takes memory: or memory ran out.
abbrev pub Gives : {X Y : Type 0} → (X → Y) → Result X LineFault → Option Y → Type 0
Gives view (Ok x) read = read ≡ Some (view x)
Gives view (Err faults.NoMemory) read = Unit {0}
Gives view (Err faults.Form) read = read ≡ None

-- the bytes after one that comes first
abbrev pub after_byte : ℕ → List ℕ → Option (List ℕ)
after_byte byte [] = None
after_byte byte (b ∷ bs) = if b == byte then Some bs else None

-- the bytes after a space and a letter
abbrev pub after_letter : ℕ → List ℕ → Option (List ℕ)
after_letter letter bytes = after_byte 32 bytes >>= after_byte letter

abbrev pub is_digit : ℕ → Bool
is_digit b = nat_le 48 b && nat_le b 57

-- more digits of a number, which counts up to `FAR`
unfoldable pub digits_read : ℕ → List ℕ → ℕ × List ℕ
digits_read n [] = (n, [])
digits_read n (b ∷ bs) = if is_digit b then digits_read (min (10 * n + (b - 48)) FAR) bs else (n, b ∷ bs)

-- a zero, or digits of which the first is none
abbrev pub natural_read : List ℕ → Option (ℕ × List ℕ)
natural_read [] = None
natural_read (b ∷ bs) = if b == 48 then Some (0, bs) else (if is_digit b then Some (digits_read (b - 48) bs) else None)

abbrev pub plain : ℕ × List ℕ → Number × List ℕ
plain x = (record { negative = false; size = x.0 }, x.1)

abbrev pub negative_read : ℕ × List ℕ → Option (Number × List ℕ)
negative_read x = if x.0 == 0 then None else Some (record { negative = true; size = x.0 }, x.1)

abbrev pub integer_read : List ℕ → Option (Number × List ℕ)
integer_read [] = None
integer_read (b ∷ bs) =
    if b == 45 then natural_read bs >>= negative_read else (natural_read (b ∷ bs) >>= λ x. Some (plain x))

-- a number with a space before it
unfoldable pub number_read : List ℕ → Option (Number × List ℕ)
number_read bytes = after_byte 32 bytes >>= integer_read

abbrev pub signed_of : Number → ℤ
signed_of m = if m.negative then neg_ℤ (pos m.size) else pos m.size

abbrev pub is_error : Number → Bool
is_error m = nat_le m.size MAX_ERROR

abbrev pub is_delay : Forwarding → Number → Bool
is_delay f m = not m.negative && nat_le f.bmin m.size && nat_le m.size f.bmax

abbrev pub is_link : ℕ → ℕ → Number → Bool
is_link least links m = not m.negative && nat_le least m.size && nat_lt m.size links

-- nothing of a line is read
abbrev pub empty_draft : Draft
empty_draft = record { row = record { errors = []; bridges = []; cuts = [] }; least_link = 0; is_wrong = false }

-- a wrong value comes
abbrev pub stopped : Draft → Draft
stopped d = record { row = d.row; least_link = d.least_link; is_wrong = true }

abbrev pub push_error : Draft → Number → Draft
push_error d m = record {
  row = record { errors = d.row.errors ++ signed_of m ∷ []; bridges = d.row.bridges; cuts = d.row.cuts };
  least_link = d.least_link;
  is_wrong = d.is_wrong;
}

abbrev pub push_delay : Draft → Number → Draft
push_delay d m = record {
  row = record { errors = d.row.errors; bridges = d.row.bridges ++ m.size ∷ []; cuts = d.row.cuts };
  least_link = d.least_link;
  is_wrong = d.is_wrong;
}

abbrev pub push_link : Draft → Number → Draft
push_link d m = record {
  row = record { errors = d.row.errors; bridges = d.row.bridges; cuts = d.row.cuts ++ m.size ∷ [] };
  least_link = m.size + 1;
  is_wrong = d.is_wrong;
}

-- One more value of the line is read: it is kept where it and all before are right.
abbrev pub with_error : Draft → Number → Draft
with_error d m = if d.is_wrong then d else (if is_error m then push_error d m else stopped d)

abbrev pub with_delay : Draft → Forwarding → Number → Draft
with_delay d f m = if d.is_wrong then d else (if is_delay f m then push_delay d m else stopped d)

abbrev pub with_link : ℕ → Draft → Number → Draft
with_link links d m = if d.is_wrong then d else (if is_link d.least_link links m then push_link d m else stopped d)

-- a number for each item
abbrev pub each_read : {X : Type 0} → (Draft → X → Number → Draft) → List X → Draft → List ℕ → Option (Draft × List ℕ)
each_read step [] d bytes = Some (d, bytes)
each_read step (x ∷ xs) d bytes = number_read bytes >>= λ y. each_read step xs (step d x y.0) y.1

abbrev pub errors_read : List Device → Draft → List ℕ → Option (Draft × List ℕ)
errors_read devices d bytes = each_read (λ e _ m. with_error e m) devices d bytes

abbrev pub delays_read : List Forwarding → Draft → List ℕ → Option (Draft × List ℕ)
delays_read fs d bytes = each_read with_delay fs d bytes

-- fewer numbers than so many, up to an LF
abbrev pub links_read : ℕ → ℕ → Draft → List ℕ → Option (Draft × List ℕ)
links_read links zero d bytes = None
links_read links (suc count) d [] = None
links_read links (suc count) d (b ∷ bs) =
    if b == 10 then Some (d, bs) else (number_read (b ∷ bs) >>= λ y. links_read links count (with_link links d y.0) y.1)

-- a whole line
unfoldable pub line_read : List Device → List Forwarding → ℕ → Draft → List ℕ → Option (Draft × List ℕ)
line_read devices fs links d bytes = do
  start ← after_byte 69 bytes
  errors ← errors_read devices d start
  second ← after_letter 66 errors.1
  bridges ← delays_read fs errors.0 second
  third ← after_letter 67 bridges.1
  links_read links (length third) bridges.0 third

-- the place of the value after those that are kept
abbrev pub next_place : Row → ℕ
next_place row = length row.errors + length row.bridges + length row.cuts + 1

-- the row of a line that is read whole, or its first wrong place
abbrev pub verdict_of : ℕ → Draft → Result Row WorldFault
verdict_of line d = if d.is_wrong then Err (refusals.Refused line (next_place d.row)) else Ok d.row
