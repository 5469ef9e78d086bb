-- `build` meets its contract: by what `validate_setup` answers.
use Rattle.std.proofs.Common.{rules}
use Rattle.de.specs.Build.{built_of}
use Rattle.de.proofs.Numbers.{built-meets}
use Rattle.de.proofs.build.DESamplerBuilder.build.Goals as goal

pub returns-in_err-validate_setup : goal.returns-in_err-validate_setup
unfolding built_of
returns-in_err-validate_setup c = built-meets c.args.self _ (search rules)

pub returns : goal.returns
unfolding built_of
returns c = built-meets c.args.self _ (search rules)
