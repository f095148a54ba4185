use Rattle.std.proofs.Common.{◌≡◌, drop, map}
use Rattle.std.specs.List.{fold}
use Rattle.clap.specs.Words.{app_of}
use Rattle.a68_command.specs.Splitting.{call_app, with_verb}
use Rattle.a68_command.proofs.splitting.call.Given as goal

abbrev pub invariant-loop-name : goal.invariant-loop-name
invariant-loop-name l = fold with_verb (app_of l.call) (map (λ verb. verb.now) (drop l.name-index l.name-items)) ≡ call_app
