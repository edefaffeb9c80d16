use Rattle.std.proofs.Common.{◌≡◌, ◌+◌, ◌≤◌, ◌++◌, flat_map, length, reverse, take}
use Rattle.s66_why.specs.{first_stretch, second_stretch, third_stretch}
use Rattle.s66_why.proofs.waits.waits_of.Given as goal

abbrev pub invariant-loop-write : goal.invariant-loop-write
invariant-loop-write l =
    let s = reverse l.earlier in
    record {
      items : l.waits.items ≡ first_stretch s l.point ++ second_stretch s l.point ++ flat_map (third_stretch s l.point) (take l.write-index l.write-items);
      few : length l.waits.items ≤ l.write-index + 2;
    }
