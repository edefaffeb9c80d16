use Rattle.std.proofs.Common.{◌≡◌, ◌++◌, codes, drop, string_bytes, take, flat_map}
use Rattle.s66_command.specs.{byte_in_json, is_list, is_list_behind}
use Rattle.s66_command.proofs.profile_list.object_of_list.Given as goal

-- what is left is behind the byte before it as the text is behind a comma
abbrev pub invariant-loop-byte : goal.invariant-loop-byte
invariant-loop-byte l = record {
  rest : is_list_behind l.before (drop l.byte-index l.text) ≡ is_list l.text;
  object : string_bytes l.object ≡ codes "{\"" ++ flat_map byte_in_json (take l.byte-index l.text);
}
