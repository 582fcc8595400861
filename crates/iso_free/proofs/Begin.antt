-- What is opened and parted, app by app.
use Rattle.std.specs.Prelude.{Option, Some, slice_get}
use Rattle.std.proofs.Common.{◌≡◌, ℕ, zero, suc, ◌+◌, ◌<◌, ◌≤◌, List, [], ◌∷◌, ◌++◌, length, get_or, map, drop, refl, sym, ap, ◌∙◌, subst, arith}
use Rattle.std.proofs.lemmas.List.{append-nil, append_assoc, length-append, length-drop, length-map, map-append}
use Rattle.iso_plant.specs.Replay.{PlantView}
use Rattle.free_end.proofs.Parts.{each_more}
use Rattle.free_jobs.specs.Jobs.{JobView}
use Rattle.free_plant.specs.Buffers.{BufferView, new_buffer}
use Rattle.free_plant.specs.Ties.{HasWidths}
use Rattle.free_plant.specs.Views.{AreWires, PortView, new_port}
use Rattle.free_plant.proofs.Taking.{item_is}
use Rattle.iso_free.specs.Begun.{AreBegun}
use Rattle.iso_free.specs.Opened.{AreOpened, IsOpened}
use Rattle.iso_free.specs.declared.opening.OpenedApp.{OpenedApp}

got_at : {X : Type 0} (xs : List X) (k : ℕ) (x : X) (rest : List X) → x ∷ rest ≡ drop k xs → slice_get xs k ≡ Some x
got_at [] zero x rest e = absurd (cc)
got_at [] (suc k) x rest e = absurd (cc)
got_at (y ∷ ys) zero x rest e = let h : x ≡ y = (cc) in ap (λ (z : _). Some z) (sym h)
got_at (y ∷ ys) (suc k) x rest e = got_at ys k x rest e

named_at : {X Y : Type 0} (f : X → Y) (xs : List X) (k : ℕ) (x : X) (rest : List X) → x ∷ rest ≡ drop k xs → slice_get (map f xs) k ≡ Some (f x)
named_at f [] zero x rest e = absurd (cc)
named_at f [] (suc k) x rest e = absurd (cc)
named_at f (y ∷ ys) zero x rest e = let h : x ≡ y = (cc) in ap (λ (z : _). Some (f z)) (sym h)
named_at f (y ∷ ys) (suc k) x rest e = named_at f ys k x rest e

pub get_named : {X Y : Type 0} (f : X → Y) (xs its : List X) (ys : List Y) (k m : ℕ) (x : X) (rest : List X)
    → map f xs ≡ ys → m ≡ k → its ≡ x ∷ rest → its ≡ drop k xs → slice_get ys m ≡ Some (f x)
get_named f xs its ys k m x rest is same next at =
    subst (λ (l : List _). slice_get l m ≡ Some (f x)) is (subst (λ (n : ℕ). slice_get (map f xs) n ≡ Some (f x)) (sym same) (named_at f xs k x rest (sym next ∙ at)))

pub get_opened : {A : Type 0} (start : Option PlantView) (xs its : List (OpenedApp A)) (k m : ℕ) (x : OpenedApp A) (rest : List (OpenedApp A))
    → AreOpened start xs → m ≡ k → its ≡ x ∷ rest → its ≡ drop k xs → IsOpened start m x
get_opened start xs its k m x rest all same next at =
    subst (λ (n : ℕ). IsOpened start n x) (sym same) (all k x (got_at xs k x rest (sym next ∙ at)))

drop_at : {X : Type 0} (xs : List X) (k : ℕ) (x : X) (rest : List X) → x ∷ rest ≡ drop k xs → (rest ≡ drop (suc k) xs) × (k < length xs)
drop_at [] zero x rest e = absurd (cc)
drop_at [] (suc k) x rest e = absurd (cc)
drop_at (y ∷ ys) zero x rest e = ((let h : rest ≡ ys = (cc) in h), omega arith)
drop_at (y ∷ ys) (suc k) x rest e = let h = drop_at ys k x rest e in (h.0, (let b = h.1 in omega arith))

pub rest_next : {X : Type 0} (xs its rest : List X) (k m : ℕ) (x : X) → its ≡ x ∷ rest → its ≡ drop k xs → m ≡ k + 1 → (rest ≡ drop m xs) × (m ≤ length xs)
rest_next xs its rest k m x next at more =
    let h = drop_at xs k x rest (sym next ∙ at) in
    (h.0 ∙ ap (λ (n : ℕ). drop n xs) (let e : suc k ≡ m = omega arith in e), (let b = h.1 in omega arith))

pub rest_below : {X : Type 0} (xs its rest : List X) (k : ℕ) (x : X) → its ≡ x ∷ rest → its ≡ drop k xs → k < length xs
rest_below xs its rest k x next at = (drop_at xs k x rest (sym next ∙ at)).1

pub rest_end : {X : Type 0} (xs : List X) (k : ℕ) → length (drop k xs) ≡ 0 → length xs ≤ k
rest_end xs k e = let n = length-drop k xs in omega arith

got_snoc : {X : Type 0} (P : ℕ → X → Type 0) (xs : List X) (x : X) → ((n : ℕ) (y : X) → slice_get xs n ≡ Some y → P n y) → P (length xs) x
    → (n : ℕ) (y : X) → slice_get (xs ++ x ∷ []) n ≡ Some y → P n y
got_snoc P [] x each here zero y at = let h : x ≡ y = (cc) in subst (P 0) h here
got_snoc P [] x each here (suc n) y at = absurd (cc)
got_snoc P (z ∷ xs) x each here zero y at = each 0 y at
got_snoc P (z ∷ xs) x each here (suc n) y at = got_snoc (λ k w. P (suc k) w) xs x (λ k w got. each (suc k) w got) here n y at

pub opened_more : {A : Type 0} (start : Option PlantView) (xs more : List (OpenedApp A)) (x : OpenedApp A) → AreOpened start xs → more ≡ xs ++ x ∷ []
    → IsOpened start (length xs) x → AreOpened start more
opened_more start xs more x all is here = subst (λ (l : List _). AreOpened start l) (sym is) (got_snoc (IsOpened start) xs x all here)

module _ (start : Option PlantView) where
  pub begun_more : (wires wmore : List ℕ) (ports pmore : List PortView) (buffers bmore : List BufferView) (jobs jmore : List JobView) (w : ℕ) (p : PortView) (b : BufferView) (j : JobView)
      → AreBegun start (length wires) wires ports buffers jobs → wmore ≡ wires ++ w ∷ [] → pmore ≡ ports ++ p ∷ [] → bmore ≡ buffers ++ b ∷ [] → jmore ≡ jobs ++ j ∷ []
      → w ≡ length wires → p ≡ new_port (length wires) → HasWidths start (length wires) b → j.number ≡ length wires → AreBegun start (length wmore) wmore pmore bmore jmore
  begun_more wires wmore ports pmore buffers bmore jobs jmore w p b j begun wis pis bis jis wn pn bn jn =
      let n : length wmore ≡ length wires + 1 = ap (λ (l : List ℕ). length l) wis ∙ length-append wires (w ∷ []) in
      let m : length pmore ≡ length ports + 1 = ap (λ (l : List PortView). length l) pis ∙ length-append ports (p ∷ []) in
      let o : length bmore ≡ length buffers + 1 = ap (λ (l : List BufferView). length l) bis ∙ length-append buffers (b ∷ []) in
      let c : length ports ≡ length wires = begun.ports_count in
      let d : length buffers ≡ length wires = begun.buffers_count in record {
        wires_are = record {
          count = refl;
          each = each_more (λ (k x : ℕ). x ≡ k) wires wmore w 0 wis begun.wires_are.each wn;
        };
        ports_count = (omega arith);
        each_port = λ k h.
            each_more (λ (k : ℕ) (x : PortView). x ≡ new_port k) ports pmore p (new_port 0) pis (λ i l. begun.each_port i (omega arith))
            (subst (λ (i : ℕ). p ≡ new_port i) (sym c) pn) k (omega arith);
        buffers_count = (omega arith);
        each_buffer = λ k h.
            each_more (HasWidths start) buffers bmore b (new_buffer 0 0) bis (λ i l. begun.each_buffer i (omega arith))
            (subst (λ (i : ℕ). HasWidths start i b) (sym d) bn) k (omega arith);
        jobs_are = ap (λ (l : List JobView). map (λ (i : JobView). i.number) l) jis
            ∙ (map-append (λ (i : JobView). i.number) jobs (j ∷ []) ∙ (λ i. begun.jobs_are i ++ (jn ∙ sym wn) i ∷ []) ∙ sym wis);
      }

  pub begun_none : (wires : List ℕ) (ports : List PortView) (buffers : List BufferView) (jobs : List JobView) → wires ≡ [] → ports ≡ [] → buffers ≡ [] → jobs ≡ []
      → AreBegun start (length wires) wires ports buffers jobs
  begun_none wires ports buffers jobs ws ps bs js =
      let n : length wires ≡ 0 = ap (λ (l : List ℕ). length l) ws in
      let m : length ports ≡ 0 = ap (λ (l : List PortView). length l) ps in
      let o : length buffers ≡ 0 = ap (λ (l : List BufferView). length l) bs in record {
        wires_are = record { count = refl; each = λ k h. absurd (omega arith) };
        ports_count = omega arith;
        each_port = λ k h. absurd (omega arith);
        buffers_count = omega arith;
        each_buffer = λ k h. absurd (omega arith);
        jobs_are = ap (λ (l : List JobView). map (λ (i : JobView). i.number) l) js ∙ sym ws;
      }

-- the number that the exchanges of an app have
pub wire_at : (apps : ℕ) (wires : List ℕ) (n number w : ℕ) → AreWires apps wires → n < apps → w ≡ get_or wires n w → n ≡ number → number ≡ w
wire_at apps wires n number w all below got same =
    let count = all.count in
    let is : w ≡ n = item_is wires n w 0 (omega arith) got ∙ all.each n below in
    sym same ∙ sym is

pub all_left : {X : Type 0} (xs ys all : List X) → xs ++ ys ≡ all → length ys ≡ 0 → xs ≡ all
all_left xs [] all e none = sym (append-nil xs) ∙ e
all_left xs (y ∷ ys) all e none = absurd (omega arith)

-- lists of as many items
pub same_count : {X Y Z : Type 0} (f : X → Z) (g : Y → Z) (xs : List X) (ys : List Y) → map f xs ≡ map g ys → length xs ≡ length ys
same_count f g xs ys e = sym (length-map xs f) ∙ (ap (λ (l : List _). length l) e ∙ length-map ys g)

pub loop_apps : {X Y : Type 0} (f : X → Y) (old more : List X) (x : X) (y : Y) (left rest all : List Y) → map f old ++ left ≡ all → left ≡ y ∷ rest → more ≡ old ++ x ∷ [] → f x ≡ y
    → map f more ++ rest ≡ all
loop_apps f old more x y left rest all e next is same =
    ap (λ (l : List _). l ++ rest) (ap (λ (l : List _). map f l) is ∙ map-append f old (x ∷ []))
    ∙ (append_assoc (map f old) (f x ∷ []) rest ∙ ((λ i. map f old ++ same i ∷ rest) ∙ (ap (λ (l : List _). map f old ++ l) (sym next) ∙ e)))
