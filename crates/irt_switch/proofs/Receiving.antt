-- The entry by which a device receives a frame.
use Rattle.std.proofs.Common.{◌≡◌, ℕ, ◌==◌, Bool, if◌then◌else◌, List, length, find, Some, None, option_and_then, Ok, sym, ◌∙◌, ap}
use Rattle.std.specs.List.{AllByRecursion}
use Rattle.std.proofs.lemmas.List.Elements.{All-contains, All-from_recursion}
use Rattle.irt_base.specs.Valid.{IsEntry}
use Rattle.irt_base.specs.declared.blocks.Bundle.{Bundle}
use Rattle.irt_base.specs.declared.blocks.Entry.{Entry}
use Rattle.rtc3_frame.specs.Frame.{Fields, fields_at}
use Rattle.irt_switch.specs.Arrive.{receiving_of, if_receiving, is_receiving, frame_of}
use Rattle.irt_switch.proofs.Members.{found_in}

pub found_valid : (entries : List Entry) (frame : ℕ) (e : Entry) → AllByRecursion IsEntry entries → Some e ≡ find (λ (x : Entry). x.frame.0 == frame) entries → IsEntry e
found_valid entries frame e all is =
    All-contains IsEntry entries e (All-from_recursion IsEntry entries all) (found_in (λ (x : Entry). x.frame.0 == frame) entries e is).0

-- what was read and found is the entry, where it receives such a frame
pub received_by : (bundle : Bundle) (k : ℕ) (bytes : List ℕ) (f : Fields) (e : Entry) (b : Bool) → fields_at bytes ≡ Ok f →
    Some e ≡ find (λ (x : Entry). x.frame.0 == f.frame) bundle.frames.entries → b ≡ is_receiving k (length f.csdu) e →
    (if b then Some e else None) ≡ option_and_then (receiving_of bundle k) (frame_of (fields_at bytes))
received_by bundle k bytes f e b read found test =
    ap (λ (x : Bool). if x then Some e else None) test ∙ ap (option_and_then (if_receiving k (length f.csdu))) found
    ∙ sym (ap (λ r. option_and_then (receiving_of bundle k) (frame_of r)) read)
