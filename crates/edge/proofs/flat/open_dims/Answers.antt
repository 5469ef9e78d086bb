-- `open_dims` meets its contract: each dimension opened, or one that is unknown (`tried`).
use Rattle.std.proofs.Common.{rules}
use Rattle.edge.specs.Flat.{dim_of}
use Rattle.edge.specs.Known.{known_distribution}
use Rattle.edge.proofs.Dims.{tried}
use Rattle.edge.proofs.flat.open_dims.Goals as goal

pub returns : goal.returns
returns c = tried _ known_distribution dim_of (λ f k x r h. search rules) c.args.flat.now 16 c.try_map.result c.try_map.ensures.ok c.try_map.ensures.err
