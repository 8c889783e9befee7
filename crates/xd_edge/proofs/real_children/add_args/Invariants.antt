use Rattle.std.proofs.Common.{◌≡◌, ◌++◌, map, take}
use Rattle.std.specs.Process.{command_args, command_program, SameDir, SameEnv}
use Rattle.std.specs.Str.{encode_utf8_all}
use Rattle.xd_edge.proofs.real_children.add_args.Given as goal

abbrev pub invariant-loop-arg : goal.invariant-loop-arg
invariant-loop-arg l =
    (command_args l.command ≡ command_args l.initial.command ++ map encode_utf8_all (take l.arg-index l.args))
    × (command_program l.command ≡ command_program l.initial.command)
    × SameDir l.initial.command l.command
    × SameEnv l.initial.command l.command
