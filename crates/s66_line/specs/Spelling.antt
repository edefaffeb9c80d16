-- To be believed: what the letters of an operation can mean, as the manual lists it, and a spelling of each octal code.
use Rattle.std.specs.Prelude.{◌≡◌, ◌≤◌, ◌+◌, ℕ, List, [], ◌∷◌, ◌++◌, codes}
use Rattle.s66_isa.specs.{Instr, Among, rising, instr}

-- the two letters of each operation, and the octal codes that it can mean
abbrev pub operations : List (List ℕ × List ℕ)
operations =
    (codes "BX", rising 8 0o10)
    ∷ (codes "LX", 0o20 ∷ 0o22 ∷ [])
    ∷ (codes "AX", 0o21 ∷ 0o23 ∷ [])
    ∷ (codes "NX", 0o24 ∷ [])
    ∷ (codes "ZX", 0o25 ∷ [])
    ∷ (codes "UX", 0o26 ∷ [])
    ∷ (codes "PX", 0o27 ∷ [])
    ∷ (codes "FX", 0o30 ∷ 0o31 ∷ 0o40 ∷ 0o44 ∷ [])
    ∷ (codes "DX", 0o32 ∷ 0o33 ∷ 0o42 ∷ [])
    ∷ (codes "RX", 0o34 ∷ 0o35 ∷ 0o41 ∷ 0o45 ∷ [])
    ∷ (codes "IX", 0o36 ∷ 0o37 ∷ [])
    ∷ (codes "MX", 0o43 ∷ [])
    ∷ (codes "CX", 0o47 ∷ [])
    ∷ (codes "SA", rising 8 0o50)
    ∷ (codes "SB", rising 8 0o60)
    ∷ (codes "SX", rising 8 0o70)
    ∷ []

-- a digit 0 to 7, as it is written
abbrev pub digit : ℕ → List ℕ
digit d = (48 + d) ∷ []

-- the operation is letters and the digit i, and these letters can mean the instruction's code
pub record CanMean (operation : List ℕ) (n : Instr) : Type 0 where
  pub letters : List ℕ
  pub meanings : List ℕ
  pub listed : Among (letters, meanings) operations
  pub written : operation ≡ letters ++ digit n.i
  pub code : Among n.op.code meanings
  pub digits : (n.i ≤ 7) × (n.j ≤ 7) × (n.k ≤ 7)

-- A SPELLING OF EACH CODE with these digits: operation, operand, and what they spell; a digit that is in neither is 0

-- an operation and an operand of each octal code, with these digits
abbrev pub spellings : ℕ → ℕ → ℕ → List (List ℕ × List ℕ × Instr)
spellings i j k =
    (codes "BX" ++ digit i, xj, instr 0o10 i j 0)
    ∷ (codes "BX" ++ digit i, xj ++ codes "*" ++ xk, instr 0o11 i j k)
    ∷ (codes "BX" ++ digit i, xj ++ codes "+" ++ xk, instr 0o12 i j k)
    ∷ (codes "BX" ++ digit i, xj ++ codes "-" ++ xk, instr 0o13 i j k)
    ∷ (codes "BX" ++ digit i, codes "-" ++ xk, instr 0o14 i 0 k)
    ∷ (codes "BX" ++ digit i, codes "-" ++ xk ++ codes "*" ++ xj, instr 0o15 i j k)
    ∷ (codes "BX" ++ digit i, codes "-" ++ xk ++ codes "+" ++ xj, instr 0o16 i j k)
    ∷ (codes "BX" ++ digit i, codes "-" ++ xk ++ codes "-" ++ xj, instr 0o17 i j k)
    ∷ (codes "LX" ++ digit i, codes "N", instr 0o20 i 0 0)
    ∷ (codes "AX" ++ digit i, codes "N", instr 0o21 i 0 0)
    ∷ (codes "LX" ++ digit i, bj ++ codes "," ++ xk, instr 0o22 i j k)
    ∷ (codes "AX" ++ digit i, bj ++ codes "," ++ xk, instr 0o23 i j k)
    ∷ (codes "NX" ++ digit i, bj ++ codes "," ++ xk, instr 0o24 i j k)
    ∷ (codes "ZX" ++ digit i, bj ++ codes "," ++ xk, instr 0o25 i j k)
    ∷ (codes "UX" ++ digit i, bj ++ codes "," ++ xk, instr 0o26 i j k)
    ∷ (codes "PX" ++ digit i, bj ++ codes "," ++ xk, instr 0o27 i j k)
    ∷ (codes "FX" ++ digit i, xj ++ codes "+" ++ xk, instr 0o30 i j k)
    ∷ (codes "FX" ++ digit i, xj ++ codes "-" ++ xk, instr 0o31 i j k)
    ∷ (codes "DX" ++ digit i, xj ++ codes "+" ++ xk, instr 0o32 i j k)
    ∷ (codes "DX" ++ digit i, xj ++ codes "-" ++ xk, instr 0o33 i j k)
    ∷ (codes "RX" ++ digit i, xj ++ codes "+" ++ xk, instr 0o34 i j k)
    ∷ (codes "RX" ++ digit i, xj ++ codes "-" ++ xk, instr 0o35 i j k)
    ∷ (codes "IX" ++ digit i, xj ++ codes "+" ++ xk, instr 0o36 i j k)
    ∷ (codes "IX" ++ digit i, xj ++ codes "-" ++ xk, instr 0o37 i j k)
    ∷ (codes "FX" ++ digit i, xj ++ codes "*" ++ xk, instr 0o40 i j k)
    ∷ (codes "RX" ++ digit i, xj ++ codes "*" ++ xk, instr 0o41 i j k)
    ∷ (codes "DX" ++ digit i, xj ++ codes "*" ++ xk, instr 0o42 i j k)
    ∷ (codes "MX" ++ digit i, codes "N", instr 0o43 i 0 0)
    ∷ (codes "FX" ++ digit i, xj ++ codes "/" ++ xk, instr 0o44 i j k)
    ∷ (codes "RX" ++ digit i, xj ++ codes "/" ++ xk, instr 0o45 i j k)
    ∷ (codes "CX" ++ digit i, xk, instr 0o47 i 0 k)
    ∷ (codes "SA" ++ digit i, aj ++ codes "+K", instr 0o50 i j 0)
    ∷ (codes "SA" ++ digit i, bj ++ codes "+K", instr 0o51 i j 0)
    ∷ (codes "SA" ++ digit i, xj ++ codes "+K", instr 0o52 i j 0)
    ∷ (codes "SA" ++ digit i, xj ++ codes "+" ++ bk, instr 0o53 i j k)
    ∷ (codes "SA" ++ digit i, aj ++ codes "+" ++ bk, instr 0o54 i j k)
    ∷ (codes "SA" ++ digit i, aj ++ codes "-" ++ bk, instr 0o55 i j k)
    ∷ (codes "SA" ++ digit i, bj ++ codes "+" ++ bk, instr 0o56 i j k)
    ∷ (codes "SA" ++ digit i, bj ++ codes "-" ++ bk, instr 0o57 i j k)
    ∷ (codes "SB" ++ digit i, aj ++ codes "+K", instr 0o60 i j 0)
    ∷ (codes "SB" ++ digit i, bj ++ codes "+K", instr 0o61 i j 0)
    ∷ (codes "SB" ++ digit i, xj ++ codes "+K", instr 0o62 i j 0)
    ∷ (codes "SB" ++ digit i, xj ++ codes "+" ++ bk, instr 0o63 i j k)
    ∷ (codes "SB" ++ digit i, aj ++ codes "+" ++ bk, instr 0o64 i j k)
    ∷ (codes "SB" ++ digit i, aj ++ codes "-" ++ bk, instr 0o65 i j k)
    ∷ (codes "SB" ++ digit i, bj ++ codes "+" ++ bk, instr 0o66 i j k)
    ∷ (codes "SB" ++ digit i, bj ++ codes "-" ++ bk, instr 0o67 i j k)
    ∷ (codes "SX" ++ digit i, aj ++ codes "+K", instr 0o70 i j 0)
    ∷ (codes "SX" ++ digit i, bj ++ codes "+K", instr 0o71 i j 0)
    ∷ (codes "SX" ++ digit i, xj ++ codes "+K", instr 0o72 i j 0)
    ∷ (codes "SX" ++ digit i, xj ++ codes "+" ++ bk, instr 0o73 i j k)
    ∷ (codes "SX" ++ digit i, aj ++ codes "+" ++ bk, instr 0o74 i j k)
    ∷ (codes "SX" ++ digit i, aj ++ codes "-" ++ bk, instr 0o75 i j k)
    ∷ (codes "SX" ++ digit i, bj ++ codes "+" ++ bk, instr 0o76 i j k)
    ∷ (codes "SX" ++ digit i, bj ++ codes "-" ++ bk, instr 0o77 i j k)
    ∷ []
  where
    xj : List ℕ
    xj = codes "X" ++ digit j

    xk : List ℕ
    xk = codes "X" ++ digit k

    aj : List ℕ
    aj = codes "A" ++ digit j

    bj : List ℕ
    bj = codes "B" ++ digit j

    bk : List ℕ
    bk = codes "B" ++ digit k

-- the octal codes, rising; there is no 46
abbrev pub all_codes : List ℕ
all_codes = rising 30 0o10 ++ 0o47 ∷ rising 24 0o50
