-- Inner: the headline does not rest on this file.
-- How the words of a call are split.
use Rattle.std.specs.Prelude.{true, [], codes, Some, fold}
use Rattle.clap.specs.Walk.{Rule, Text}
use Rattle.clap.specs.Simple.{App, Shape, new_app, new_rule, new_shape, with_rule, with_subcommand}
use Rattle.clap.specs.declared.builder.action.ArgAction.TheVariants.{SetTrue}
use Rattle.a68_command.specs.Words.{verbs}

abbrev pub operand_rule : Rule
operand_rule = record (new_rule (codes "operand")) { required = true }

abbrev pub second_rule : Rule
second_rule = new_rule (codes "second")

-- the option of this name, with a value
abbrev pub valued_rule : Text → Rule
valued_rule name = record (new_rule name) { long = Some name }

abbrev pub names_rule : Rule
names_rule = record (new_rule (codes "names")) { long = Some (codes "names"); action = Some SetTrue }

-- a verb with its operands and options
abbrev pub verb_app : Text → App
verb_app name = with_rule (with_rule (with_rule (with_rule (with_rule (with_rule (new_app name) operand_rule) second_rule)
    (valued_rule (codes "workers"))) (valued_rule (codes "fuel"))) (valued_rule (codes "input"))) names_rule

abbrev pub verb_shape : Text → Shape
verb_shape name = (verb_app name).top

-- a call without a verb
abbrev pub bare_call : App
bare_call = record {
  top = record (new_shape (codes "a68")) {
    no_binary_name = true;
    disable_help_flag = true;
    disable_help_subcommand = true;
    disable_version_flag = true;
    subcommand_required = true;
  };
  subs = [];
}

abbrev pub with_verb : App → Text → App
with_verb call name = with_subcommand call (verb_shape name)

-- the call: one verb, with no flag and no verb but those named here
abbrev pub call_app : App
call_app = fold with_verb bare_call verbs
