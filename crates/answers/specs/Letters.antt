-- The letters that records begin with and answers repeat, as bytes. Assumes nothing.
use Rattle.std.specs.Prelude.{ℕ}

-- take a request in
abbrev pub S : ℕ
S = 83

-- send
abbrev pub N : ℕ
N = 78

-- an event
abbrev pub E : ℕ
E = 69

-- abort
abbrev pub A : ℕ
A = 65

-- freeze
abbrev pub F : ℕ
F = 70

-- release
abbrev pub R : ℕ
R = 82

-- tick
abbrev pub T : ℕ
T = 84

-- bus reset
abbrev pub B : ℕ
B = 66

-- hand back
abbrev pub H : ℕ
H = 72
