-- Laws of whole runs above soundness.
use Rattle.std.proofs.Common.{◌≡◌, ◌≢◌, ℕ, ◌+◌, ◌*◌, ◌<◌, ◌≤◌, Bool, true, false, ◌||◌, nat_lt, nat_eq, if◌then◌else◌, Option, Some, None, List, [], ◌∷◌, ◌++◌, length, take, drop, set, get_or, refl, sym, ap, ◌∙◌, arith, get_or-set_other, get_or-set_same, append_assoc}
use Rattle.std.proofs.Math.ListN.{get_or-append, drop_of_length-le}
use Rattle.std.proofs.Math.Nat.{le_refl}
use Rattle.std.proofs.lemmas.List.{length-append, ext_get_or, drop_more, append-nil}
use Rattle.std.proofs.lemmas.Bool.Decides.{nat_tests}
use Rattle.std.specs.Prelude.{slice_index}
use Rattle.swap_core.specs.declared.steps.Step.{Step}
use Rattle.swap_core.specs.declared.steps.Step.TheVariants as steps
use Rattle.swap_core.specs.declared.steps.Seen.{Seen}
use Rattle.swap_core.specs.Machine.{Slots, row_of, after, seen_by}
use Rattle.swap_core.specs.Runs.{State, start, next, run, sights_of, publication, IsSound, stored, stored_after, was_shown, shown_after}
use Rattle.swap_core.proofs.Rows.{row_same, row_length}
use Rattle.swap_core.proofs.Sound.{sound_next, sound_start, sound_run, newest_is}

pub run-append : (s : State) (es more : List Step) → run s (es ++ more) ≡ run (run s es) more
run-append s [] more = refl
run-append s (e ∷ es) more = run-append (next s e) es more

-- a row never changes its length
words_cond : (s : Slots) (b : Bool) (t : Slots) → t.words ≡ s.words → (if b then t else s).words ≡ s.words
words_cond s true t e = e
words_cond s false t e = refl

pub words-next : (s : State) (e : Step) → (next s e).slots.words ≡ s.slots.words
words-next s (steps.Store place word) = words_cond s.slots (nat_lt place s.slots.words) (record s.slots { cells = set s.slots.cells (s.slots.words * s.slots.draft + place) word }) refl
words-next s steps.Publish = refl
words-next s steps.Probe = refl
words-next s steps.Take = words_cond s.slots s.slots.ready (record s.slots { front = s.slots.middle; middle = s.slots.front; fresh = false; ready = false; held = s.slots.newest }) refl
words-next s (steps.Load place) = refl

pub words-run : (s : State) (es : List Step) → (run s es).slots.words ≡ s.slots.words
words-run s [] = refl
words-run s (e ∷ es) = words-run (next s e) es ∙ words-next s e

-- the draft row has the word that was stored last at the place, if one was
abbrev HasStored : State → ℕ → Option ℕ → Type 0
HasStored s place w = (x : ℕ) → w ≡ Some x → get_or (row_of s.slots s.slots.draft) place 0 ≡ x

stores_true : (s : State) (at word place : ℕ) (w : Option ℕ) (same : Bool) → nat_eq at place ≡ same → IsSound s → place < s.slots.words → at < s.slots.words → ((x : ℕ) → w ≡ Some x → get_or (row_of s.slots s.slots.draft) place 0 ≡ x)
    → (x : ℕ) → (if same then Some word else w) ≡ Some x → get_or (take s.slots.words (drop (s.slots.words * s.slots.draft) (set s.slots.cells (s.slots.words * s.slots.draft + at) word))) place 0 ≡ x
stores_true s at word place w true is h fits here kept x e =
    let equal : at ≡ place = grind (arith, nat_tests) in
    let len = row_length s.slots.cells s.slots.words s.slots.draft h.cells h.draft in
    let now : word ≡ x = cc in
    let row = take s.slots.words (drop (s.slots.words * s.slots.draft) s.slots.cells) in
    let inside : at < length row = omega arith in
    ap (λ (l : List ℕ). get_or l place 0) (row_same s.slots.cells s.slots.words s.slots.draft at word here)
    ∙ (ap (λ (k : ℕ). get_or (set row at word) k 0) (sym equal) ∙ (get_or-set_same row at word 0 inside ∙ now))
stores_true s at word place w false is h fits here kept x e =
    let apart : at ≢ place = grind (arith, nat_tests) in
    let row = take s.slots.words (drop (s.slots.words * s.slots.draft) s.slots.cells) in
    let other : place ≢ at = λ e. apart (sym e) in
    ap (λ (l : List ℕ). get_or l place 0) (row_same s.slots.cells s.slots.words s.slots.draft at word here)
    ∙ (get_or-set_other row at place word 0 other ∙ kept x e)

stores_at : (s : State) (at word place : ℕ) (w : Option ℕ) (b : Bool) → nat_lt at s.slots.words ≡ b → IsSound s → place < s.slots.words → HasStored s place w
    → HasStored (record { slots = if b then record s.slots { cells = set s.slots.cells (s.slots.words * s.slots.draft + at) word } else s.slots; published = s.published }) place (if nat_eq at place then Some word else w)
stores_at s at word place w true is h fits kept =
    let here : at < s.slots.words = grind (arith, nat_tests) in
    stores_true s at word place w (nat_eq at place) refl h fits here kept
stores_at s at word place w false is h fits kept =
    let far : s.slots.words ≤ at = grind (arith, nat_tests) in
    let apart : nat_eq at place ≡ false = grind (arith, nat_tests) in
    λ x e. kept x (ap (λ (b : Bool). if b then Some word else w) (sym apart) ∙ e)

stores_take : (s : State) (place : ℕ) (w : Option ℕ) (b : Bool) → HasStored s place w
    → HasStored (record { slots = if b then record s.slots { front = s.slots.middle; middle = s.slots.front; fresh = false; ready = false; held = s.slots.newest } else s.slots; published = s.published }) place w
stores_take s place w true kept = kept
stores_take s place w false kept = kept

stores_next : (s : State) (e : Step) (place : ℕ) (w : Option ℕ) → IsSound s → place < s.slots.words → HasStored s place w → HasStored (next s e) place (stored_after w place e)
stores_next s (steps.Store at word) place w h fits kept = stores_at s at word place w (nat_lt at s.slots.words) refl h fits kept
stores_next s steps.Publish place w h fits kept = λ x e. absurd (cc)
stores_next s steps.Probe place w h fits kept = kept
stores_next s steps.Take place w h fits kept = stores_take s place w s.slots.ready kept
stores_next s (steps.Load at) place w h fits kept = kept

stores_run : (s : State) (es : List Step) (place : ℕ) (w : Option ℕ) → IsSound s → place < s.slots.words → HasStored s place w → HasStored (run s es) place (stored w place es)
stores_run s [] place w h fits kept = kept
stores_run s (e ∷ es) place w h fits kept =
    let same = words-next s e in
    stores_run (next s e) es place (stored_after w place e) (sound_next s e h) (omega arith) (stores_next s e place w h fits kept)

nothing_stored : (s : State) (place : ℕ) → HasStored s place None
nothing_stored s place x e = absurd (cc)

-- what is published next is the draft row
next_is_draft : (m : ℕ) (es : List Step) → publication (run (start m) (es ++ steps.Publish ∷ [])).published ((run (start m) es).slots.newest + 1) ≡ row_of (run (start m) es).slots (run (start m) es).slots.draft
next_is_draft m es =
    let s = run (start m) es in
    let h = sound_run m es in
    ap (λ (t : State). publication t.published (s.slots.newest + 1)) (run-append (start m) es (steps.Publish ∷ []))
    ∙ newest_is s.published (row_of s.slots s.slots.draft) (s.slots.newest + 1) h.count

pub published_word : (m : ℕ) (es : List Step) (place word : ℕ) → place < m → stored None place es ≡ Some word
    → slice_index (publication (run (start m) (es ++ steps.Publish ∷ [])).published ((run (start m) es).slots.newest + 1)) place ≡ word
published_word m es place word fits e =
    ap (λ (l : List ℕ). get_or l place 0) (next_is_draft m es)
    ∙ stores_run (start m) es place None (sound_start m) fits (nothing_stored (start m) place) word e

pub published_whole : (m : ℕ) (es : List Step) (words : List ℕ) → length words ≡ m → ((place : ℕ) → place < m → stored None place es ≡ Some (slice_index words place))
    → publication (run (start m) (es ++ steps.Publish ∷ [])).published ((run (start m) es).slots.newest + 1) ≡ words
published_whole m es words len each =
    let s = run (start m) es in
    let h = sound_run m es in
    let wide = words-run (start m) es in
    let row = row_length s.slots.cells s.slots.words s.slots.draft h.cells h.draft in
    let all = ap (λ (l : List ℕ). length l) (next_is_draft m es) in
    let size : length (publication (run (start m) (es ++ steps.Publish ∷ [])).published ((run (start m) es).slots.newest + 1)) ≡ m = all ∙ (row ∙ wide) in
    ext_get_or 0 _ words (size ∙ sym len) (λ i lt. published_word m es i (get_or words i 0) (omega arith) (each i (omega arith)))

-- ready says what the probes said
ready_store : (s : Slots) (cells : List ℕ) (b c : Bool) → c ≡ s.ready → c ≡ (if b then record s { cells = cells } else s).ready
ready_store s cells true c e = e
ready_store s cells false c e = e

ready_probe : (b ready fresh : Bool) → b ≡ ready → (ready ≡ true → fresh ≡ true) → (b || fresh) ≡ fresh
ready_probe true ready fresh e up = sym (up (sym e))
ready_probe false ready fresh e up = refl

ready_take : (s : Slots) (b : Bool) → s.ready ≡ b → false ≡ (if b then record s { front = s.middle; middle = s.front; fresh = false; ready = false; held = s.newest } else s).ready
ready_take s true e = refl
ready_take s false e = sym e

shown_next : (s : State) (e : Step) (b : Bool) → IsSound s → b ≡ s.slots.ready → shown_after b e (seen_by s.slots e) ≡ (next s e).slots.ready
shown_next s (steps.Store place word) b h is = ready_store s.slots (set s.slots.cells (s.slots.words * s.slots.draft + place) word) (nat_lt place s.slots.words) b is
shown_next s steps.Publish b h is = is
shown_next s steps.Probe b h is = ready_probe b s.slots.ready s.slots.fresh is h.ready
shown_next s steps.Take b h is = ready_take s.slots s.slots.ready refl
shown_next s (steps.Load place) b h is = is

shown_run : (s : State) (es : List Step) (b : Bool) → IsSound s → b ≡ s.slots.ready → (run s es).slots.ready ≡ was_shown b es (sights_of s es)
shown_run s [] b h is = sym is
shown_run s (e ∷ es) b h is = shown_run (next s e) es (shown_after b e (seen_by s.slots e)) (sound_next s e h) (shown_next s e b h is)

pub ready_is : (m : ℕ) (es : List Step) → (run (start m) es).slots.ready ≡ was_shown false es (sights_of (start m) es)
ready_is m es = shown_run (start m) es false (sound_start m) refl

-- numbers never fall, and publications stay
held_store : (s : Slots) (cells : List ℕ) (b : Bool) → s.held ≤ (if b then record s { cells = cells } else s).held
held_store s cells true = le_refl s.held
held_store s cells false = le_refl s.held

held_take : (s : Slots) (b : Bool) → s.held ≤ s.newest → s.held ≤ (if b then record s { front = s.middle; middle = s.front; fresh = false; ready = false; held = s.newest } else s).held
held_take s true h = h
held_take s false h = le_refl s.held

pub held_next : (s : State) (e : Step) → IsSound s → s.slots.held ≤ (next s e).slots.held
held_next s (steps.Store place word) h = held_store s.slots (set s.slots.cells (s.slots.words * s.slots.draft + place) word) (nat_lt place s.slots.words)
held_next s steps.Publish h = le_refl s.slots.held
held_next s steps.Probe h = le_refl s.slots.held
held_next s steps.Take h = held_take s.slots s.slots.ready h.held
held_next s (steps.Load place) h = le_refl s.slots.held

held_run : (s : State) (es : List Step) → IsSound s → s.slots.held ≤ (run s es).slots.held
held_run s [] h = le_refl s.slots.held
held_run s (e ∷ es) h = let one = held_next s e h in let more = held_run (next s e) es (sound_next s e h) in omega arith

pub held_forward : (m : ℕ) (es more : List Step) → (run (start m) es).slots.held ≤ (run (start m) (es ++ more)).slots.held
held_forward m es more =
    let e = ap (λ (t : State). t.slots.held) (run-append (start m) es more) in
    let h = held_run (run (start m) es) more (sound_run m es) in
    omega arith

stays_next : (s : State) (e : Step) (number : ℕ) → number < length s.published → (publication (next s e).published number ≡ publication s.published number) × (number < length (next s e).published)
stays_next s (steps.Store place word) number h = (refl, h)
stays_next s steps.Publish number h =
    let last = row_of s.slots s.slots.draft in
    (get_or-append s.published (last ∷ []) [] number h, let n = length-append s.published (last ∷ []) in omega arith)
stays_next s steps.Probe number h = (refl, h)
stays_next s steps.Take number h = (refl, h)
stays_next s (steps.Load place) number h = (refl, h)

stays_run : (s : State) (es : List Step) (number : ℕ) → number < length s.published → publication (run s es).published number ≡ publication s.published number
stays_run s [] number h = refl
stays_run s (e ∷ es) number h = let one = stays_next s e number h in stays_run (next s e) es number one.1 ∙ one.0

pub published_forward : (m : ℕ) (es more : List Step) (number : ℕ) → number ≤ (run (start m) es).slots.newest
    → publication (run (start m) (es ++ more)).published number ≡ publication (run (start m) es).published number
published_forward m es more number h =
    let c = (sound_run m es).count in
    ap (λ (t : State). publication t.published number) (run-append (start m) es more)
    ∙ stays_run (run (start m) es) more number (omega arith)

-- the same runs by what the core keeps alone
abbrev pub slots_after : Slots → List Step → Slots
slots_after s [] = s
slots_after s (e ∷ es) = slots_after (after s e) es

abbrev pub sights_after : Slots → List Step → List Seen
sights_after s [] = []
sights_after s (e ∷ es) = seen_by s e ∷ sights_after (after s e) es

pub run-slots : (s : State) (es : List Step) → (run s es).slots ≡ slots_after s.slots es
run-slots s [] = refl
run-slots s (e ∷ es) = run-slots (next s e) es

pub sights-slots : (s : State) (es : List Step) → sights_of s es ≡ sights_after s.slots es
sights-slots s [] = refl
sights-slots s (e ∷ es) = ap (λ (l : List Seen). seen_by s.slots e ∷ l) (sights-slots (next s e) es)

-- one step of a loop over the steps
pub slots-on : (s t : Slots) (es : List Step) (i : ℕ) (d : Step) (all : Slots) → i < length es → t ≡ after s (get_or es i d) → slots_after s (drop i es) ≡ all → slots_after t (drop (i + 1) es) ≡ all
slots-on s t es i d all h e was =
    ap (λ (x : Slots). slots_after x (drop (i + 1) es)) e ∙ (sym (ap (λ (l : List Step). slots_after s l) (drop_more es i d h)) ∙ was)

pub sights-on : (s t : Slots) (es : List Step) (i : ℕ) (d : Step) (seen pushed : List Seen) (sight : Seen) (all : List Seen) → i < length es → t ≡ after s (get_or es i d) → sight ≡ seen_by s (get_or es i d)
    → pushed ≡ seen ++ sight ∷ [] → seen ++ sights_after s (drop i es) ≡ all → pushed ++ sights_after t (drop (i + 1) es) ≡ all
sights-on s t es i d seen pushed sight all h e saw push was =
    ap (λ (l : List Seen). l ++ sights_after t (drop (i + 1) es)) push
    ∙ (append_assoc seen (sight ∷ []) (sights_after t (drop (i + 1) es))
    ∙ (ap (λ (x : Slots). seen ++ sight ∷ sights_after x (drop (i + 1) es)) e
    ∙ (ap (λ (x : Seen). seen ++ x ∷ sights_after (after s (get_or es i d)) (drop (i + 1) es)) saw
    ∙ (sym (ap (λ (l : List Step). seen ++ sights_after s l) (drop_more es i d h)) ∙ was))))

newest_cond : (s t : Slots) (b : Bool) → t.newest ≡ s.newest → (if b then t else s).newest ≤ s.newest + 1
newest_cond s t true e = omega arith
newest_cond s t false e = omega arith

pub newest-after : (s : Slots) (e : Step) → (after s e).newest ≤ s.newest + 1
newest-after s (steps.Store place word) = newest_cond s (record s { cells = set s.cells (s.words * s.draft + place) word }) (nat_lt place s.words) refl
newest-after s steps.Publish = omega arith
newest-after s steps.Probe = omega arith
newest-after s steps.Take = newest_cond s (record s { front = s.middle; middle = s.front; fresh = false; ready = false; held = s.newest }) s.ready refl
newest-after s (steps.Load place) = omega arith

pub slots-end : (s : Slots) (es : List Step) (i : ℕ) (all : Slots) → length es ≤ i → slots_after s (drop i es) ≡ all → s ≡ all
slots-end s es i all h was = sym (ap (λ (l : List Step). slots_after s l) (drop_of_length-le es h)) ∙ was

pub sights-end : (s : Slots) (es : List Step) (i : ℕ) (seen all : List Seen) → length es ≤ i → seen ++ sights_after s (drop i es) ≡ all → seen ≡ all
sights-end s es i seen all h was = sym (append-nil seen) ∙ (sym (ap (λ (l : List Step). seen ++ sights_after s l) (drop_of_length-le es h)) ∙ was)

pub risen : (s t : Slots) (e : Step) (i : ℕ) → t ≡ after s e → s.newest ≤ i → t.newest ≤ i + 1
risen s t e i is h = let a = ap (λ (x : Slots). x.newest) is in let b = newest-after s e in omega arith
