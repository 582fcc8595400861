-- Tables give what they were made of.
use Rattle.std.proofs.Common.{◌≡◌, ℕ, ◌+◌, ◌*◌, ◌<◌, ◌≤◌, List, map, length, Option, Some, option_map, option_and_then, slice_get, unwrap_or, sym, ◌∙◌, ap, arith, lt_of_mul-lt-mul_right}
use Rattle.std.specs.Int.{div_ceil}
use Rattle.std.specs.List.{range_with_len}
use Rattle.std.proofs.lemmas.Grind.{div_ceil_times}
use Rattle.std.proofs.lemmas.List.FromFn.{get_or-map-range_with_len, length-map-range_with_len}
use Rattle.std.proofs.lemmas.Option.{same_Some, slice_get-get_or, slice_get_within}
use Rattle.sync_world.specs.Domain.{IsDomain}
use Rattle.sync_world.specs.Lines.{all_passages, line_passages, measured, passage_of, syncs_in}
use Rattle.sync_world.specs.Report.{known_in}
use Rattle.sync_world.specs.Table.{IsTable, passage_in}
use Rattle.sync_world.specs.declared.domain.Domain.{Domain}
use Rattle.sync_world.specs.declared.lines.LinePassages.{LinePassages}
use Rattle.sync_world.specs.declared.lines.Passage.{Passage}
use Rattle.sync_world.specs.declared.lines.TheConstants.{FIRST_EXCHANGES}
use Rattle.sync_world.specs.declared.table.TheConstants.{NO_PASSAGE}

-- an item of a list made by a function of the index
pub made_at : {X : Type 0} (f : ℕ → X) (n k : ℕ) → k < n → slice_get (map f (range_with_len 0 n)) k ≡ Some (f k)
made_at f n k below =
    let long : length (map f (range_with_len 0 n)) ≡ n = length-map-range_with_len f 0 n in
    slice_get-get_or (map f (range_with_len 0 n)) k (f k) (omega (arith, below, long))
    ∙ ap Some (get_or-map-range_with_len f 0 n k k (f k) below (omega arith))

-- the other way
pub made_is : {X : Type 0} (f : ℕ → X) (n k : ℕ) (x : X) → slice_get (map f (range_with_len 0 n)) k ≡ Some x → (k < n) × (x ≡ f k)
made_is f n k x is =
    let long : length (map f (range_with_len 0 n)) ≡ n = length-map-range_with_len f 0 n in
    let within = slice_get_within (map f (range_with_len 0 n)) k x is in
    let below : k < n = omega (arith, within, long) in
    (below, same_Some x (f k) (sym is ∙ made_at f n k below))

-- a message that is sent in these cycles is one of those
sync_below : (sync send cycles : ℕ) → 1 ≤ send → sync * send < cycles → sync < div_ceil cycles send
sync_below sync send cycles some within =
    let all = div_ceil_times cycles send some in
    let less : sync * send < div_ceil cycles send * send = omega (arith, within, all.0) in
    lt_of_mul-lt-mul_right send less

pub table_is : (domain : Domain) (cycles : ℕ) (table : List LinePassages) → IsDomain domain → table ≡ all_passages domain cycles → IsTable domain cycles table
table_is domain cycles table valid is = λ sync within v below.
    let line : slice_get (all_passages domain cycles) v.0 ≡ Some (line_passages domain (syncs_in domain cycles) v.0) =
    made_at (line_passages domain (syncs_in domain cycles)) (length domain.lines) v.0 below in
    let here : slice_get (map (passage_of domain v.0) (range_with_len 0 (syncs_in domain cycles))) sync ≡ Some (passage_of domain v.0 sync) =
    made_at (passage_of domain v.0) (syncs_in domain cycles) sync (sync_below sync domain.send cycles valid.some_send within) in
    ap (λ (t : List LinePassages). passage_in t sync v) is
    ∙ ap (λ (o : Option LinePassages). unwrap_or (option_and_then (λ (l : LinePassages). slice_get l.passages sync) o) NO_PASSAGE) line
    ∙ ap (λ (o : Option Passage). unwrap_or o NO_PASSAGE) here

pub known_is_measured : (domain : Domain) (cycles : ℕ) (table : List LinePassages) (device : ℕ) → table ≡ all_passages domain cycles →
    device < length domain.lines → known_in table device ≡ measured domain device (FIRST_EXCHANGES + syncs_in domain cycles)
known_is_measured domain cycles table device is below =
    let line : slice_get (all_passages domain cycles) device ≡ Some (line_passages domain (syncs_in domain cycles) device) =
    made_at (line_passages domain (syncs_in domain cycles)) (length domain.lines) device below in
    ap (λ (t : List LinePassages). known_in t device) is
    ∙ ap (λ (o : Option LinePassages). unwrap_or (option_map (λ (l : LinePassages). l.known) o) 0) line
