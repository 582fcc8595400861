use Rattle.std.proofs.Common.{sym, ◌∙◌, rules}
use Rattle.irt_base.proofs.TextLemmas.{decimal_IsUtf8, ok_of, ok_fact, read_back}
use Rattle.irt_base.proofs.texts.parse_number.Goals as goal

pub returns-in_err-ok : goal.returns-in_err-ok
returns-in_err-ok c = λ n is.
    let whole = ok_of _ _ _ c.from_utf8.result (decimal_IsUtf8 c.args.text.now n is) c.from_utf8.ensures.cases in
    search (rules, whole)

pub returns : goal.returns
returns c = λ n is.
    let same = ok_fact _ _ c.from_utf8.result c.in_ok-ok.field-0 (sym c.ok.ensures.value ∙ c.in_ok-ok.was) c.from_utf8.ensures.cases in
    c.ok-2.ensures.value ∙ read_back c.in_ok-ok.field-0.now n c.parse.result (is.0, same.0 ∙ is.1) c.parse.ensures.value.0
