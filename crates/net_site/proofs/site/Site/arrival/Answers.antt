use Rattle.std.proofs.Common.{◌≡◌, true, false, rules, sym, ◌∙◌}
use Rattle.net_site.specs.Site.{play_in}
use Rattle.net_site.proofs.Look.{caused}
use Rattle.net_site.proofs.site.Site.arrival.Goals as goal

pub returns-then-is_uncut : goal.returns-then-is_uncut
returns-then-is_uncut c = λ bundles k.
    let uncut : c.is_uncut.result ≡ true = search rules in
    c.over_link.ensures
    ∙ caused (play_in c.args.self.now.plant bundles c.args.row.now k) c.args.start.at c.args.start.device.0 c.args.start.port.0 c.args.start.frame.0 true
    (sym uncut ∙ c.is_uncut.ensures bundles k)

pub returns-else-is_uncut : goal.returns-else-is_uncut
returns-else-is_uncut c = λ bundles k.
    let cut : c.is_uncut.result ≡ false = search rules in
    caused (play_in c.args.self.now.plant bundles c.args.row.now k) c.args.start.at c.args.start.device.0 c.args.start.port.0 c.args.start.frame.0 false
    (sym cut ∙ c.is_uncut.ensures bundles k)
