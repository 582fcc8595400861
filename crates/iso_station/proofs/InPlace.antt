-- Lists that are written in place, part by part.
use Rattle.std.proofs.Common.{◌≡◌, ℕ, ◌+◌, ◌<◌, ◌≤◌, List, [], ◌∷◌, ◌++◌, length, map, take, drop, get_or, set, refl, sym, ◌∙◌, ap, arith, subst, subst₂, append_assoc, append-nil}
use Rattle.std.specs.List.{flat_map, AllPairs}
use Rattle.std.proofs.lemmas.List.{drop_more, take_more, take_at, set_at, get_or_at, map_more, length-map, length-take}
use Rattle.std.proofs.lemmas.List.Sums.{sum_by_more, sum_by_more_le, sum_by-cons}
use Rattle.std.proofs.lemmas.Slice.{take-put_mid}
use Rattle.iso_station.specs.Consumer.{count_of}
use Rattle.std.specs.List.Sorted.{IsStrictlyIncreasing}
use Rattle.std.proofs.lemmas.List.Elements.{All-filter, All-from_recursion}
use Rattle.std.proofs.lemmas.List.Kept.{AllPairs-filter}
use Rattle.irt_base.specs.Valid.{IsEntry, IsFrameBlock, frames_of}
use Rattle.irt_base.specs.declared.blocks.Entry.{Entry}
use Rattle.irt_base.specs.declared.blocks.FrameBlock.{FrameBlock}
use Rattle.irt_switch.specs.Ports.{is_kept}
use Rattle.irt_switch.specs.Release.{is_provided}
use Rattle.irt_switch.proofs.Finding.{ascending}
use Rattle.irt_switch.proofs.Members.{pairs_map}
use Rattle.iso_rules.specs.Station.{data_words, consumed_of, provided_of}
use Rattle.iso_station.specs.Held.{Held, new_held, ended, shown}
use Rattle.iso_station.proofs.HeldLemmas.{ended_entry}
use Rattle.iso_station.specs.Kept.{AreInOrder, IsWhole}
use borrow.Rule.Slice.PartMut.{put_mid}

-- one more element is mapped
pub map_step : {A : Type 0} (f : A → A) (old now : List A) (i : ℕ) (x y : A) → i < length old → now ≡ map f (take i old) ++ drop i old →
    x ≡ get_or now i x → y ≡ f x → set now i y ≡ map f (take (i + 1) old) ++ drop (i + 1) old
map_step f old now i x y within so_far read wrote =
    let z = get_or old i x in
    let front : length (map f (take i old)) ≡ i = length-map (take i old) f ∙ length-take i old ∙ omega arith in
    let parts : now ≡ map f (take i old) ++ z ∷ drop (i + 1) old = so_far ∙ ap (λ l. map f (take i old) ++ l) (drop_more old i x within) in
    let there : x ≡ z = read ∙ ap (λ l. get_or l i x) parts ∙ get_or_at (map f (take i old)) z (drop (i + 1) old) x i front in
    ap (λ l. set l i y) parts
    ∙ set_at (map f (take i old)) z (drop (i + 1) old) y i front
    ∙ ap (λ w. map f (take i old) ++ w ∷ drop (i + 1) old) (wrote ∙ ap f there)
    ∙ sym (append_assoc (map f (take i old)) (f z ∷ []) (drop (i + 1) old))
    ∙ ap (λ l. l ++ drop (i + 1) old) (sym (map_more f old i x within))

pub flat_map_push : {A : Type 0} (f : A → List ℕ) (xs : List A) (x : A) → flat_map f (xs ++ x ∷ []) ≡ flat_map f xs ++ f x
flat_map_push f [] x = append-nil (f x)
flat_map_push f (y ∷ ys) x = ap (λ l. f y ++ l) (flat_map_push f ys x) ∙ sym (append_assoc (f y) (flat_map f ys) (f x))

-- the words of one more frame are written behind those before
pub show_step : (frames : List Held) (i : ℕ) (held : Held) (out written : List ℕ) (start width : ℕ) → i < length frames → held ≡ get_or frames i held →
    start ≤ length out → take start out ≡ flat_map shown (take i frames) → written ≡ shown held → length written ≡ width →
    take (start + width) (put_mid start width out written) ≡ flat_map shown (take (i + 1) frames)
show_step frames i held out written start width within read room so_far wrote long =
    take-put_mid start width out written (start + width) (omega (arith, long)) room
    ∙ ap (λ l. l ++ written) so_far
    ∙ ap (λ l. flat_map shown (take i frames) ++ l) (wrote ∙ ap shown read)
    ∙ sym (flat_map_push shown (take i frames) (get_or frames i held))
    ∙ ap (flat_map shown) (sym (take_more frames i held within))

pub count_step : (frames : List Held) (i : ℕ) (held : Held) (start width : ℕ) → i < length frames → held ≡ get_or frames i held →
    start ≡ count_of (take i frames) → width ≡ data_words held.entry → start + width ≡ count_of (take (i + 1) frames)
count_step frames i held start width within read so_far wide =
    let one = sum_by_more (λ (h : Held). data_words h.entry) frames i held within in
    let same : data_words held.entry ≡ data_words (get_or frames i held).entry = ap (λ (h : Held). data_words h.entry) read in
    omega (arith, one, same, so_far, wide)

-- there is room for them
pub count_room : (frames : List Held) (i : ℕ) (held : Held) (start width : ℕ) → i < length frames → held ≡ get_or frames i held →
    start ≡ count_of (take i frames) → width ≡ data_words held.entry → start + width ≤ count_of frames
count_room frames i held start width within read so_far wide =
    let least = sum_by_more_le (λ (h : Held). data_words h.entry) frames i held within in
    let same : data_words held.entry ≡ data_words (get_or frames i held).entry = ap (λ (h : Held). data_words h.entry) read in
    omega (arith, least, same, so_far, wide)

-- ---- after the end of a cycle

pub count_ended : (k : ℕ) (frames : List Held) → count_of (map (ended k) frames) ≡ count_of frames
count_ended k [] = refl
count_ended k (h ∷ hs) =
    sum_by-cons (λ (x : Held). data_words x.entry) (ended k h) (map (ended k) hs)
    ∙ ap (λ (e : Entry). data_words e + count_of (map (ended k) hs)) (ended_entry k h)
    ∙ ap (λ n. data_words h.entry + n) (count_ended k hs)
    ∙ sym (sum_by-cons (λ (x : Held). data_words x.entry) h hs)

-- ---- the order of frames

-- it rests on their entries
pub order_mapped : (f : Held → Held) → ((h : Held) → (f h).entry ≡ h.entry) → (frames : List Held) → AreInOrder frames → AreInOrder (map f frames)
order_mapped f same frames up =
    pairs_map f (λ (a b : Held). a.entry.frame.0 < b.entry.frame.0) frames
    (λ i j d before below. subst₂ (λ (x y : Entry). x.frame.0 < y.frame.0) (sym (same (get_or frames i d))) (sym (same (get_or frames j d))) (up i j d before below))

pub order_ended : (k : ℕ) (frames new rest : List Held) (n : ℕ) → AreInOrder frames → new ≡ map (ended k) frames → length frames ≡ n →
    AreInOrder (take n (new ++ rest))
order_ended k frames new rest n up is count =
    let long : length new ≡ n = ap length is ∙ length-map frames (ended k) ∙ count in
    subst AreInOrder (sym (take_at new rest n long ∙ is)) (order_mapped (ended k) (ended_entry k) frames up)

-- the frames of entries in order
pub order_new : (entries : List Entry) → AllPairs (λ (a b : Entry). a.frame.0 < b.frame.0) entries → AreInOrder (map new_held entries)
order_new entries up = pairs_map new_held (λ (a b : Held). a.entry.frame.0 < b.entry.frame.0) entries up

-- ---- the entries of a block

pub order_of_block : (entries : List Entry) → IsStrictlyIncreasing (frames_of entries) → AreInOrder (map new_held (consumed_of entries))
order_of_block entries up =
    order_new (consumed_of entries)
    (AllPairs-filter (λ (a b : Entry). a.frame.0 < b.frame.0) (λ (e : Entry). is_kept e.tx) entries (ascending entries up))

pub whole_of_block : (b : FrameBlock) → IsFrameBlock b → IsWhole (provided_of b.entries)
whole_of_block b valid = record {
  valid = All-filter is_provided IsEntry b.entries (All-from_recursion IsEntry b.entries valid.each);
  order = AllPairs-filter (λ (a c : Entry). a.frame.0 < c.frame.0) is_provided b.entries (ascending b.entries valid.ascending);
}
