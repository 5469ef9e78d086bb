-- `flatten_dims` meets its contract: each dimension flattened (`mapped`).
use Rattle.std.proofs.Common.{rules}
use Rattle.distribution.specs.Dims.{no_dim}
use Rattle.edge.specs.Flat.{flat_dim, flat_choice}
use Rattle.edge.proofs.Dims.{mapped}
use Rattle.edge.proofs.flatten.flatten_dims.Goals as goal

pub returns : goal.returns
returns c = mapped _ _ flat_dim c.args.dims c.map.result 16 no_dim (flat_choice 0) (search rules) c.map.ensures.items (λ p q x y k. search rules)
