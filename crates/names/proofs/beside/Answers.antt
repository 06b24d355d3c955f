-- `beside` meets its contract: what the two calls say is what `shows` asks.
use Rattle.std.proofs.Common.{rules}
use Rattle.names.proofs.PanelLaws.{shows}
use Rattle.names.proofs.beside.Goals as goal

pub returns : goal.returns
returns c = search (rules, shows)
