use Rattle.std.proofs.Common.{◌∙◌, ap, is_some, sym}
use Rattle.clap.specs.Words.{found_of}
use Rattle.s66_command.proofs.GivenOptions.{found-by}
use Rattle.s66_command.proofs.Named.{calls, name-known}
use Rattle.s66_command.proofs.usage.asked.Goals as goal

pub unreachable-requires : goal.unreachable-requires
unreachable-requires c =
    let (words, is) = c.requires in
    name-known c.args.matches.now words _ is c.in_default.ensures.name

pub mistake-requires : goal.mistake-requires
mistake-requires c =
    let (words, is) = c.requires in
    name-known c.args.matches.now words _ is c.in-Some.ensures.name

pub command_by-requires : goal.command_by-requires
command_by-requires c =
    let (words, is) = c.requires in
    record {
      named = name-known c.args.matches.now words _ is c.in-Some.ensures.name;
      found = (words, found-by c.args.matches.now words (found_of c.in-Some.given.now) is c.in-Some.ensures.rows);
    }

pub returns-in-None : goal.returns-in-None
returns-in-None c = λ words is.
    let there = found-by c.args.matches.now words (found_of c.in-Some.given.now) is c.in-Some.ensures.rows in
    let none = sym (c.conflict_in.ensures.given words there) ∙ ap is_some c.in-None.is in
    c.command_by.ensures words there (calls c.args.matches.now words _ is c.in-Some.ensures.name none)
