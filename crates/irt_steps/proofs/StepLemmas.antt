-- Steps that follow each other.
use Rattle.std.proofs.Common.{◌≡◌, ◌⊎◌, inl, inr, ℕ, List, Option, Some, None, Result, Ok, Err, refl, sym, ◌∙◌, ap, subst, arith, ◌<◌, ◌≤◌, length}
use Rattle.irt_io.specs.Files.{Files}
use Rattle.irt_steps.specs.declared.stop.Stop.{Stop}
use Rattle.irt_steps.specs.declared.stop.Stop.TheVariants as stops
use Rattle.irt_steps.specs.Steps.{Ending, ending, Steps, gives, ends, loads, stores, asks, after, judged, IsHeld, IsUnloaded, missing, too_long, Comes, FailsAt, Halts, LoadsNext, IsButFor}
use Rattle.irt_steps.specs.Follow.{status_of, Follows, Answers, Decides}

abbrev pub value : {A : Type 0} → A → Result A Ending
value x = Ok x

abbrev pub stopped : {A : Type 0} → Ending → Result A Ending
stopped e = Err e

pub ok_same : {A : Type 0} {x y : A} → value x ≡ value y → x ≡ y
ok_same is = cc

err_same : {A B : Type 0} {d e : Ending} → stopped {A = A} e ≡ stopped {A = A} d → stopped {A = B} e ≡ stopped {A = B} d
err_same is = cc

-- the first steps give a value, and the next ones lead on from there
pub comes_on : {A B : Type 0} (steps : Steps A) (f : A → Steps B) (old mid new : Option Files) (x : A) (result : Result B Ending) →
    Comes steps old mid (Ok x) → Comes (f x) mid new result → Comes (after steps f) old new result
comes_on (gives y) f old mid new x result (is, kept) next = subst (λ z. Comes (f z) old new result) (ok_same is) (subst (λ m. Comes (f x) m new result) kept next)
comes_on (ends e) f old mid new x result (is, kept) next = absurd cc
comes_on (loads name limit more) f old mid new x result (inl (bytes, held, comes)) next = inl (bytes, held, comes_on (more bytes) f old mid new x result comes next)
comes_on (loads name limit more) f old mid new x result (inr (e, why, is, kept)) next = absurd cc
comes_on (stores name bytes more) f old mid new x result (between, stored, comes) next = (between, stored, comes_on more f between mid new x result comes next)
comes_on (asks P more) f old mid new x result (b, holds, comes) next = (b, holds, comes_on (more b) f old mid new x result comes next)

-- an ending of the first steps is one of all
pub comes_end : {A B : Type 0} (steps : Steps A) (f : A → Steps B) (old new : Option Files) (e : Ending) → Comes steps old new (Err e) → Comes (after steps f) old new (Err e)
comes_end (gives y) f old new e (is, kept) = absurd cc
comes_end (ends d) f old new e (is, kept) = (err_same is, kept)
comes_end (loads name limit more) f old new e (inl (bytes, held, comes)) = inl (bytes, held, comes_end (more bytes) f old new e comes)
comes_end (loads name limit more) f old new e (inr (d, why, is, kept)) = inr (d, why, err_same is, kept)
comes_end (stores name bytes more) f old new e (between, stored, comes) = (between, stored, comes_end more f between new e comes)
comes_end (asks P more) f old new e (b, holds, comes) = (b, holds, comes_end (more b) f old new e comes)

fails_first : {A B : Type 0} (steps : Steps A) (f : A → Steps B) (old new : Option Files) (name : List ℕ) → FailsAt steps old new name → FailsAt (after steps f) old new name
fails_first (gives y) f old new name fails = absurd fails
fails_first (ends d) f old new name fails = absurd fails
fails_first (loads at limit more) f old new name (inl here) = inl here
fails_first (loads at limit more) f old new name (inr (bytes, held, fails)) = inr (bytes, held, fails_first (more bytes) f old new name fails)
fails_first (stores at bytes more) f old new name (inl here) = inl here
fails_first (stores at bytes more) f old new name (inr (between, stored, fails)) = inr (between, stored, fails_first more f between new name fails)
fails_first (asks P more) f old new name (b, holds, fails) = (b, holds, fails_first (more b) f old new name fails)

fails_later : {A B : Type 0} (steps : Steps A) (f : A → Steps B) (old mid new : Option Files) (x : A) (name : List ℕ) → Comes steps old mid (Ok x) → FailsAt (f x) mid new name →
    FailsAt (after steps f) old new name
fails_later (gives y) f old mid new x name (is, kept) fails = subst (λ z. FailsAt (f z) old new name) (ok_same is) (subst (λ m. FailsAt (f x) m new name) kept fails)
fails_later (ends d) f old mid new x name (is, kept) fails = absurd cc
fails_later (loads at limit more) f old mid new x name (inl (bytes, held, comes)) fails = inr (bytes, held, fails_later (more bytes) f old mid new x name comes fails)
fails_later (loads at limit more) f old mid new x name (inr (e, why, is, kept)) fails = absurd cc
fails_later (stores at bytes more) f old mid new x name (between, stored, comes) fails = inr (between, stored, fails_later more f between mid new x name comes fails)
fails_later (asks P more) f old mid new x name (b, holds, comes) fails = (b, holds, fails_later (more b) f old mid new x name comes fails)

but_none : (files : Option Files) (name : List ℕ) → IsButFor files files name
but_none None name = tt
but_none (Some files) name = λ other differs. refl

-- memory may run out before any step
pub halts_here : {A : Type 0} (steps : Steps A) (files : Option Files) → Halts steps files files
halts_here (gives y) files = refl
halts_here (ends d) files = refl
halts_here (loads at limit more) files = inl refl
halts_here (stores at bytes more) files = inl (but_none files at)
halts_here (asks P more) files = inl refl

halts_first : {A B : Type 0} (steps : Steps A) (f : A → Steps B) (old new : Option Files) → Halts steps old new → Halts (after steps f) old new
halts_first (gives y) f old new halts = subst (λ files. Halts (f y) old files) (sym halts) (halts_here (f y) old)
halts_first (ends d) f old new halts = halts
halts_first (loads at limit more) f old new (inl here) = inl here
halts_first (loads at limit more) f old new (inr (bytes, held, halts)) = inr (bytes, held, halts_first (more bytes) f old new halts)
halts_first (stores at bytes more) f old new (inl here) = inl here
halts_first (stores at bytes more) f old new (inr (between, stored, halts)) = inr (between, stored, halts_first more f between new halts)
halts_first (asks P more) f old new (inl here) = inl here
halts_first (asks P more) f old new (inr (b, holds, halts)) = inr (b, holds, halts_first (more b) f old new halts)

halts_later : {A B : Type 0} (steps : Steps A) (f : A → Steps B) (old mid new : Option Files) (x : A) → Comes steps old mid (Ok x) → Halts (f x) mid new → Halts (after steps f) old new
halts_later (gives y) f old mid new x (is, kept) halts = subst (λ z. Halts (f z) old new) (ok_same is) (subst (λ m. Halts (f x) m new) kept halts)
halts_later (ends d) f old mid new x (is, kept) halts = absurd cc
halts_later (loads at limit more) f old mid new x (inl (bytes, held, comes)) halts = inr (bytes, held, halts_later (more bytes) f old mid new x comes halts)
halts_later (loads at limit more) f old mid new x (inr (e, why, is, kept)) halts = absurd cc
halts_later (stores at bytes more) f old mid new x (between, stored, comes) halts = inr (between, stored, halts_later more f between mid new x comes halts)
halts_later (asks P more) f old mid new x (b, holds, comes) halts = inr (b, holds, halts_later (more b) f old mid new x comes halts)

-- ---- functions that follow each other

-- a function made the first steps, and another one the next
pub follow_on : {A B C D : Type 0} (view : A → B) (seen : C → D) (steps : Steps B) (f : B → Steps D) (old mid new : Option Files) (x : A) (result : Result C Stop) →
    Follows view steps old mid (Ok x) → Follows seen (f (view x)) mid new result → Follows seen (after steps f) old new result
follow_on view seen steps f old mid new x (Ok y) comes next = comes_on steps f old mid new (view x) (Ok (seen y)) comes next
follow_on view seen steps f old mid new x (Err (stops.Ends cause line)) comes next = comes_on steps f old mid new (view x) (Err (ending (status_of cause) line.items)) comes next
follow_on view seen steps f old mid new x (Err (stops.Fault line)) comes (name, is, fails) = (name, is, fails_later steps f old mid new (view x) name comes fails)
follow_on view seen steps f old mid new x (Err stops.NoMemory) comes next = halts_later steps f old mid new (view x) comes next

-- a function stopped in the first steps
pub follow_stop : {A B C D : Type 0} (view : A → B) (seen : C → D) (steps : Steps B) (f : B → Steps D) (old new : Option Files) (stop : Stop) →
    Follows view steps old new (Err stop) → Follows seen (after steps f) old new (Err stop)
follow_stop view seen steps f old new (stops.Ends cause line) comes = comes_end steps f old new (ending (status_of cause) line.items) comes
follow_stop view seen steps f old new (stops.Fault line) (name, is, fails) = (name, is, fails_first steps f old new name fails)
follow_stop view seen steps f old new stops.NoMemory halts = halts_first steps f old new halts

-- ---- functions that touch no shelf

decided : {A B : Type 0} (view : A → B) (answer : Result B Ending) (result : Result A Stop) → Answers view answer result → Decides view (judged answer) result
decided view (Ok x) (Ok y) is files = (sym is, refl)
decided view (Ok x) (Err (stops.Ends cause line)) is files = absurd cc
decided view (Ok x) (Err (stops.Fault line)) is files = absurd is
decided view (Ok x) (Err stops.NoMemory) is files = refl
decided view (Err e) (Ok y) is files = absurd cc
decided view (Err e) (Err (stops.Ends cause line)) is files = (sym is, refl)
decided view (Err e) (Err (stops.Fault line)) is files = absurd is
decided view (Err e) (Err stops.NoMemory) is files = refl

-- a function answered, and another one made the next steps
pub follow_answer : {A B : Type 0} (view : A → B) (answer : Result B Ending) (held : Option Files) (result : Result A Stop) → Answers view answer result →
    Follows view (judged answer) held held result
follow_answer view answer held result is = decided view answer result is held

-- memory ran out before the steps
pub follow_none : {A B : Type 0} (view : A → B) (steps : Steps B) (held : Option Files) → Follows view steps held held (Err stops.NoMemory)
follow_none view steps held = halts_here steps held

-- ---- what steps that led somewhere came by

-- steps and their next ones led somewhere: by a value of the first, or by their ending
pub comes_by : {A B : Type 0} (steps : Steps A) (f : A → Steps B) (old new : Option Files) (result : Result B Ending) → Comes (after steps f) old new result →
    ((x : A) × (mid : Option Files) × Comes steps old mid (Ok x) × Comes (f x) mid new result) ⊎ ((e : Ending) × Comes steps old new (Err e) × (result ≡ Err e))
comes_by (gives y) f old new result comes = inl (y, old, (refl, refl), comes)
comes_by (ends d) f old new result (is, kept) = inr (d, (refl, kept), is)
comes_by (loads name limit more) f old new result (inl (bytes, held, comes)) = elim (comes_by (more bytes) f old new result comes) [
  | inl (x, mid, first, next) ↦ inl (x, mid, inl (bytes, held, first), next)
  | inr (e, first, is) ↦ inr (e, inl (bytes, held, first), is)
]
comes_by (loads name limit more) f old new result (inr (e, why, is, kept)) = inr (e, inr (e, why, refl, kept), is)
comes_by (stores name bytes more) f old new result (between, stored, comes) = elim (comes_by more f between new result comes) [
  | inl (x, mid, first, next) ↦ inl (x, mid, (between, stored, first), next)
  | inr (e, first, is) ↦ inr (e, (between, stored, first), is)
]
comes_by (asks P more) f old new result (b, holds, comes) = elim (comes_by (more b) f old new result comes) [
  | inl (x, mid, first, next) ↦ inl (x, mid, (b, holds, first), next)
  | inr (e, first, is) ↦ inr (e, (b, holds, first), is)
]

judged_by : {A : Type 0} (answer : Result A Ending) (old new : Option Files) (result : Result A Ending) → Comes (judged answer) old new result → (result ≡ answer) × (new ≡ old)
judged_by (Ok x) old new result comes = comes
judged_by (Err e) old new result comes = comes

judged_comes : {A : Type 0} (answer result : Result A Ending) (files : Option Files) → answer ≡ result → Comes (judged answer) files files result
judged_comes (Ok x) result files is = (sym is, refl)
judged_comes (Err e) result files is = (sym is, refl)

-- a file that is held is loaded and judged
pub reads : {A : Type 0} (name : List ℕ) (limit : ℕ) (answer : List ℕ → Result A Ending) (files : Option Files) (bytes : List ℕ) (result : Result A Ending) →
    IsHeld files name limit bytes → answer bytes ≡ result → Comes (loads name limit (λ bytes. judged (answer bytes))) files files result
reads name limit answer files bytes result held is = inl (bytes, held, judged_comes (answer bytes) result files is)

-- a file was loaded and judged
pub read_by : {A : Type 0} (name : List ℕ) (limit : ℕ) (answer : List ℕ → Result A Ending) (old new : Option Files) (result : Result A Ending) →
    Comes (loads name limit (λ bytes. judged (answer bytes))) old new result →
    (new ≡ old) × (((bytes : List ℕ) × IsHeld old name limit bytes × (result ≡ answer bytes)) ⊎ ((e : Ending) × IsUnloaded old name limit e × (result ≡ Err e)))
read_by name limit answer old new result (inl (bytes, held, comes)) =
    let is = judged_by (answer bytes) old new result comes in
    (is.1, inl (bytes, held, is.0))
read_by name limit answer old new result (inr (e, why, is, kept)) = (kept, inr (e, why, is))

some_same : {x y : List ℕ} → Some x ≡ Some y → x ≡ y
some_same is = cc

none_some : {x : List ℕ} → None ≡ Some x → ⊥
none_some is = absurd cc

long_within : (limit : ℕ) (x y : List ℕ) → x ≡ y → limit < length x → length y ≤ limit → ⊥
long_within limit x y is over within = omega (arith, ap length is)

-- a file that a shelf which tells its files holds is not unloaded
pub held_loads : (files : Files) (name : List ℕ) (limit : ℕ) (bytes : List ℕ) (e : Ending) → IsHeld (Some files) name limit bytes → IsUnloaded (Some files) name limit e → ⊥
held_loads files name limit bytes _ held (missing none) = none_some (sym none ∙ held.held)
held_loads files name limit bytes _ held (too_long long) = long_within limit long.bytes bytes (some_same (sym long.held ∙ held.held)) long.over held.within

-- a file was loaded and judged that such a shelf holds
pub read_held : {A : Type 0} (name : List ℕ) (limit : ℕ) (answer : List ℕ → Result A Ending) (files : Files) (new : Option Files) (result : Result A Ending) (bytes : List ℕ) →
    IsHeld (Some files) name limit bytes → Comes (loads name limit (λ bytes. judged (answer bytes))) (Some files) new result → (new ≡ Some files) × (result ≡ answer bytes)
read_held name limit answer files new result bytes held comes = elim (read_by name limit answer (Some files) new result comes).1 [
  | inl (other, also, is) ↦ ((read_by name limit answer (Some files) new result comes).0, is ∙ ap answer (some_same (sym also.held ∙ held.held)))
  | inr (e, why, is) ↦ absurd (held_loads files name limit bytes e held why)
]

-- ---- which files are loaded

pub loads_first : {A B : Type 0} (steps : Steps A) (f : A → Steps B) (files now : Option Files) (name : List ℕ) (limit : ℕ) → LoadsNext steps files name limit now →
    LoadsNext (after steps f) files name limit now
loads_first (gives x) f files now name limit next = absurd next
loads_first (ends e) f files now name limit next = absurd next
loads_first (loads at most more) f files now name limit (inl here) = inl here
loads_first (loads at most more) f files now name limit (inr (bytes, held, next)) = inr (bytes, held, loads_first (more bytes) f files now name limit next)
loads_first (stores at bytes more) f files now name limit (between, stored, next) = (between, stored, loads_first more f between now name limit next)
loads_first (asks P more) f files now name limit (b, holds, next) = (b, holds, loads_first (more b) f files now name limit next)

pub loads_later : {A B : Type 0} (steps : Steps A) (f : A → Steps B) (files mid now : Option Files) (x : A) (name : List ℕ) (limit : ℕ) → Comes steps files mid (Ok x) →
    LoadsNext (f x) mid name limit now → LoadsNext (after steps f) files name limit now
loads_later (gives y) f files mid now x name limit (is, kept) next = subst (λ z. LoadsNext (f z) files name limit now) (ok_same is) (subst (λ m. LoadsNext (f x) m name limit now) kept next)
loads_later (ends d) f files mid now x name limit (is, kept) next = absurd cc
loads_later (loads at most more) f files mid now x name limit (inl (bytes, held, comes)) next = inr (bytes, held, loads_later (more bytes) f files mid now x name limit comes next)
loads_later (loads at most more) f files mid now x name limit (inr (e, why, is, kept)) next = absurd cc
loads_later (stores at bytes more) f files mid now x name limit (between, stored, comes) next = (between, stored, loads_later more f between mid now x name limit comes next)
loads_later (asks P more) f files mid now x name limit (b, holds, comes) next = (b, holds, loads_later (more b) f files mid now x name limit comes next)

-- steps end at a file that cannot be loaded
pub unloaded_next : {A : Type 0} (steps : Steps A) (files now : Option Files) (name : List ℕ) (limit : ℕ) (e : Ending) → LoadsNext steps files name limit now →
    IsUnloaded now name limit e → Comes steps files now (Err e)
unloaded_next (gives y) files now name limit e next why = absurd next
unloaded_next (ends d) files now name limit e next why = absurd next
unloaded_next (loads at most more) files now name limit e (inl (same, bound, kept)) why =
    let here : IsUnloaded files at most e = subst (λ n. IsUnloaded files n most e) same (subst (λ l. IsUnloaded files name l e) bound (subst (λ f. IsUnloaded f name limit e) kept why)) in
    inr (e, here, refl, kept)
unloaded_next (loads at most more) files now name limit e (inr (bytes, held, next)) why = inl (bytes, held, unloaded_next (more bytes) files now name limit e next why)
unloaded_next (stores at bytes more) files now name limit e (between, stored, next) why = (between, stored, unloaded_next more between now name limit e next why)
unloaded_next (asks P more) files now name limit e (b, holds, next) why = (b, holds, unloaded_next (more b) files now name limit e next why)

-- ---- steps behind steps behind steps

pub loads_in : {A B C : Type 0} (steps : Steps A) (f : A → Steps B) (g : B → Steps C) (files now : Option Files) (name : List ℕ) (limit : ℕ) →
    LoadsNext (after (after steps f) g) files name limit now → LoadsNext (after steps (λ x. after (f x) g)) files name limit now
loads_in (gives x) f g files now name limit next = next
loads_in (ends e) f g files now name limit next = next
loads_in (loads at most more) f g files now name limit (inl here) = inl here
loads_in (loads at most more) f g files now name limit (inr (bytes, held, next)) = inr (bytes, held, loads_in (more bytes) f g files now name limit next)
loads_in (stores at bytes more) f g files now name limit (between, stored, next) = (between, stored, loads_in more f g between now name limit next)
loads_in (asks P more) f g files now name limit (b, holds, next) = (b, holds, loads_in (more b) f g files now name limit next)

pub comes_out : {A B C : Type 0} (steps : Steps A) (f : A → Steps B) (g : B → Steps C) (old new : Option Files) (result : Result C Ending) →
    Comes (after steps (λ x. after (f x) g)) old new result → Comes (after (after steps f) g) old new result
comes_out (gives x) f g old new result comes = comes
comes_out (ends e) f g old new result comes = comes
comes_out (loads at most more) f g old new result (inl (bytes, held, comes)) = inl (bytes, held, comes_out (more bytes) f g old new result comes)
comes_out (loads at most more) f g old new result (inr (e, why, is, kept)) = inr (e, why, is, kept)
comes_out (stores at bytes more) f g old new result (between, stored, comes) = (between, stored, comes_out more f g between new result comes)
comes_out (asks P more) f g old new result (b, holds, comes) = (b, holds, comes_out (more b) f g old new result comes)
