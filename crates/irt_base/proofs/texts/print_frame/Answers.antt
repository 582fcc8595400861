use Rattle.std.proofs.Common.{length, ap, ◌∙◌, ◌∷◌}
use Rattle.irt_base.specs.Text.{hex_digits}
use Rattle.irt_base.proofs.TextLemmas.{four_items, length-hex_digits}
use Rattle.irt_base.proofs.texts.print_frame.Goals as goal

pub returns : goal.returns
returns c =
    ap (λ d. 48 ∷ 120 ∷ d)
    (four_items c.write_hex.new.out (ap length c.write_hex.ensures ∙ length-hex_digits 4 _) ∙ c.write_hex.ensures
    ∙ ap (hex_digits 4) c.from.ensures)
