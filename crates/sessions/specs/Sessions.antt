-- Every session of tests/cases.txt as a row, written from it by tests/rows.py: change it there. Rows.antt has the words and says how a
-- row is worked out; the head of cases.txt says what the letters of the names stand for.
-- Assumes nothing.
use Rattle.std.specs.Prelude.{List, [], ◌∷◌}
use Rattle.board.specs.Step.{answer}
use Rattle.sessions.specs.Rows.{bytes, reset, fetch, acknowledge, control, write, read, strobe_to, lines_to, ◌gives◌, ◌≔◌, some, every, Row, session, refused, after, mode, ready, out, input, lines, strobe, vector, select, mask, and, high, asked, live, waiting, service, awaiting, matched, levels, driven, code}

-- P1: board size 0: 33, "with a board of size 0 that otherwise holds what a fresh board holds"; it is not sound
abbrev pub p1 : Row
p1 =
    refused "P1" 0
    (reset gives answer 35 0 0 0 ∷ bytes (9 ∷ 9 ∷ 9 ∷ 0 ∷ []) gives answer 35 9 9 0 ∷ [])
    (every 0 (code ≔ 35 ∷ []) ∷ every 7 (code ≔ 35 ∷ []) ∷ [])

-- P2: size 5: 33
abbrev pub p2 : Row
p2 =
    refused "P2" 5
    (acknowledge gives answer 35 0 0 0 ∷ [])
    (every 0 (code ≔ 35 ∷ []) ∷ [])

-- P3: kind 8: 16
abbrev pub p3 : Row
p3 =
    session "P3" 4
    (bytes (8 ∷ 0 ∷ 0 ∷ 0 ∷ []) gives answer 16 0 0 0 ∷ [])
    (every 0 [] ∷ [])

-- P4: two devices, place 4: 17; place 3 accepted
abbrev pub p4 : Row
p4 =
    session "P4" 2
    (write 4 0 gives answer 17 4 0 0 ∷ write 3 0 gives answer 0 3 0 0 ∷ [])
    (every 3 [] ∷ every 4 (code ≔ 17 ∷ []) ∷ [])

-- P5: strobe value 2: 18
abbrev pub p5 : Row
p5 =
    session "P5" 4
    (strobe_to 0 2 gives answer 18 0 2 0 ∷ [])
    (every 0 [] ∷ [])

-- P6: control 9 (1001), nothing awaited: 19
abbrev pub p6 : Row
p6 =
    session "P6" 1
    (control 0 9 gives answer 19 0 9 0 ∷ [])
    (every 0 [] ∷ [])

-- P7: control 143 to place 1: 20; to place 0 accepted
abbrev pub p7 : Row
p7 =
    session "P7" 1
    (control 1 143 gives answer 20 1 143 0 ∷ control 0 143 gives answer 0 0 143 0 ∷ [])
    (every 0 (mode ≔ 2 ∷ []) ∷ every 1 [] ∷ [])

-- P8: after 207, byte 143 at place 1 is a select word
abbrev pub p8 : Row
p8 =
    session "P8" 1
    (control 1 207 gives answer 0 1 207 0 ∷ control 1 143 gives answer 0 1 143 0 ∷ [])
    (every 1 (mode ≔ 3 ∷ select ≔ 143 ∷ driven ≔ 112 ∷ []) ∷ [])

-- P9: fresh acknowledge: nobody
abbrev pub p9 : Row
p9 =
    session "P9" 4
    (acknowledge gives answer 3 0 255 0 ∷ [])
    (every 0 [] ∷ [])

-- P10: place 2 under service, place 0 asking, ED, 4D: place 2 released, place 0 still waiting. A waiting port does not
-- block RETI
abbrev pub p10 : Row
p10 =
    session "P10" 2
    (control 2 131 gives answer 0 2 131 0 ∷ control 0 131 gives answer 0 0 131 0 ∷ fetch 0x00 gives answer 0 0 0 0 ∷
    strobe_to 2 0 gives answer 0 2 0 0 ∷ strobe_to 2 1 gives answer 0 2 1 3 ∷ acknowledge gives answer 2 2 0 0 ∷
    strobe_to 0 0 gives answer 0 0 0 0 ∷ strobe_to 0 1 gives answer 0 0 1 1 ∷ fetch 0xED gives answer 0 0 237 1 ∷
    fetch 0x4D gives answer 0 0 77 1 ∷ [])
    (every 0 (asked ≔ 1 ∷ live ≔ 1 ∷ waiting ≔ 1 ∷ []) ∷ every 2 (asked ≔ 1 ∷ live ≔ 1 ∷ []) ∷ [])

-- P11: ED, 0, 4D: nothing
abbrev pub p11 : Row
p11 =
    session "P11" 2
    (control 2 131 gives answer 0 2 131 0 ∷ fetch 0x00 gives answer 0 0 0 0 ∷ strobe_to 2 0 gives answer 0 2 0 0 ∷
    strobe_to 2 1 gives answer 0 2 1 3 ∷ acknowledge gives answer 2 2 0 0 ∷ fetch 0xED gives answer 0 0 237 0 ∷
    fetch 0x00 gives answer 0 0 0 0 ∷ fetch 0x4D gives answer 0 0 77 0 ∷ [])
    (every 2 (asked ≔ 1 ∷ live ≔ 1 ∷ service ≔ 1 ∷ []) ∷ [])

-- P12: mode 3, AND, mask 255: no match. AND over no lines is not taken as true
abbrev pub p12 : Row
p12 =
    session "P12" 1
    (control 0 207 gives answer 0 0 207 0 ∷ control 0 255 gives answer 0 0 255 0 ∷ control 0 119 gives answer 0 0 119 0 ∷
    control 0 255 gives answer 0 0 255 0 ∷ lines_to 0 255 gives answer 0 0 255 0 ∷ [])
    (every 0 (mode ≔ 3 ∷ lines ≔ 255 ∷ select ≔ 255 ∷ and ≔ 1 ∷ high ≔ 1 ∷ []) ∷ [])

-- L1: the listing
abbrev pub l1 : Row
l1 =
    session "L1" 4
    (control 0 32 gives answer 0 0 32 0 ∷ control 0 15 gives answer 0 0 15 0 ∷ control 0 131 gives answer 0 0 131 0 ∷
    fetch 0x00 gives answer 0 0 0 0 ∷ write 0 65 gives answer 0 0 65 0 ∷ strobe_to 0 0 gives answer 0 0 0 0 ∷
    strobe_to 0 1 gives answer 0 0 1 1 ∷ acknowledge gives answer 2 0 32 0 ∷ fetch 0xED gives answer 0 0 237 0 ∷
    fetch 0x4D gives answer 0 0 77 0 ∷ acknowledge gives answer 3 0 255 0 ∷ [])
    (every 0 (mode ≔ 0 ∷ out ≔ 65 ∷ vector ≔ 32 ∷ asked ≔ 1 ∷ live ≔ 1 ∷ levels ≔ 65 ∷ driven ≔ 255 ∷ []) ∷ [])

-- E1: an enable does not work before a fetch
abbrev pub e1 : Row
e1 =
    session "E1" 1
    (control 0 131 gives answer 0 0 131 0 ∷ strobe_to 0 0 gives answer 0 0 0 0 ∷ strobe_to 0 1 gives answer 0 0 1 0 ∷
    acknowledge gives answer 3 0 255 0 ∷ fetch 0x00 gives answer 0 0 0 1 ∷ acknowledge gives answer 2 0 0 0 ∷ [])
    (every 0 (asked ≔ 1 ∷ live ≔ 1 ∷ service ≔ 1 ∷ []) ∷ [])

-- E2: RETI does not clear every port of its chip: B under service, then A; RETI releases A alone
abbrev pub e2 : Row
e2 =
    session "E2" 1
    (control 0 131 gives answer 0 0 131 0 ∷ control 1 131 gives answer 0 1 131 0 ∷ fetch 0x00 gives answer 0 0 0 0 ∷
    strobe_to 1 0 gives answer 0 1 0 0 ∷ strobe_to 1 1 gives answer 0 1 1 2 ∷ acknowledge gives answer 2 1 0 0 ∷
    strobe_to 0 0 gives answer 0 0 0 0 ∷ strobe_to 0 1 gives answer 0 0 1 1 ∷ acknowledge gives answer 2 0 0 0 ∷
    fetch 0xED gives answer 0 0 237 0 ∷ fetch 0x4D gives answer 0 0 77 0 ∷ [])
    (every 0 (asked ≔ 1 ∷ live ≔ 1 ∷ []) ∷ every 1 (asked ≔ 1 ∷ live ≔ 1 ∷ service ≔ 1 ∷ []) ∷ [])

-- E3: a strobe is not ignored because interrupts are off
abbrev pub e3 : Row
e3 =
    session "E3" 1
    (strobe_to 0 0 gives answer 0 0 0 0 ∷ strobe_to 0 1 gives answer 0 0 1 0 ∷ control 0 131 gives answer 0 0 131 0 ∷
    fetch 0x00 gives answer 0 0 0 1 ∷ [])
    (every 0 (asked ≔ 1 ∷ live ≔ 1 ∷ waiting ≔ 1 ∷ []) ∷ [])

-- E4: a level still matching does not interrupt again after RETI
abbrev pub e4 : Row
e4 =
    session "E4" 1
    (control 0 207 gives answer 0 0 207 0 ∷ control 0 255 gives answer 0 0 255 0 ∷ control 0 183 gives answer 0 0 183 0 ∷
    control 0 254 gives answer 0 0 254 0 ∷ fetch 0x00 gives answer 0 0 0 0 ∷ lines_to 0 1 gives answer 0 0 1 1 ∷
    acknowledge gives answer 2 0 0 0 ∷ fetch 0xED gives answer 0 0 237 0 ∷ fetch 0x4D gives answer 0 0 77 0 ∷ [])
    (every 0 (mode ≔ 3 ∷ lines ≔ 1 ∷ select ≔ 255 ∷ mask ≔ 254 ∷ high ≔ 1 ∷ asked ≔ 1 ∷ live ≔ 1 ∷ matched ≔ 1 ∷ []) ∷ [])

-- W1: 003 section 7.3, control interface: A5, A3, A0 inputs; vector 16; enable, OR, High; mask 214; a fetch; line 6 is
-- no input; A3 rises: a request; acknowledge
abbrev pub w1 : Row
w1 =
    session "W1" 1
    (control 0 207 gives answer 0 0 207 0 ∷ control 0 41 gives answer 0 0 41 0 ∷ control 0 16 gives answer 0 0 16 0 ∷
    control 0 183 gives answer 0 0 183 0 ∷ control 0 214 gives answer 0 0 214 0 ∷ fetch 0x00 gives answer 0 0 0 0 ∷
    lines_to 0 64 gives answer 0 0 64 0 ∷ lines_to 0 8 gives answer 0 0 8 1 ∷ acknowledge gives answer 2 0 16 0 ∷ [])
    (every 0 (mode ≔ 3 ∷ lines ≔ 8 ∷ vector ≔ 16 ∷ select ≔ 41 ∷ mask ≔ 214 ∷ high ≔ 1 ∷ asked ≔ 1 ∷ live ≔ 1 ∷ service ≔ 1 ∷ matched ≔ 1 ∷ driven ≔ 214 ∷ []) ∷ [])

-- W2: 001 section 3.6: vector 2, mode 3, select 62H, F7H (AND, High), mask 9FH; A6 alone, then A6 and A5: one request
abbrev pub w2 : Row
w2 =
    session "W2" 1
    (control 0 2 gives answer 0 0 2 0 ∷ control 0 207 gives answer 0 0 207 0 ∷ control 0 98 gives answer 0 0 98 0 ∷
    control 0 247 gives answer 0 0 247 0 ∷ control 0 159 gives answer 0 0 159 0 ∷ fetch 0xFB gives answer 0 0 251 0 ∷
    lines_to 0 64 gives answer 0 0 64 0 ∷ lines_to 0 96 gives answer 0 0 96 1 ∷ acknowledge gives answer 2 0 2 0 ∷ [])
    (every 0 (mode ≔ 3 ∷ lines ≔ 96 ∷ vector ≔ 2 ∷ select ≔ 98 ∷ mask ≔ 159 ∷ and ≔ 1 ∷ high ≔ 1 ∷ asked ≔ 1 ∷ live ≔ 1 ∷ service ≔ 1 ∷ matched ≔ 1 ∷ driven ≔ 157 ∷ []) ∷ [])

-- W3: 003 section 5.1: reset, vector, mode 1 by the reset, FFH to the data port, mode 0: the outputs go to ones;
-- enable
abbrev pub w3 : Row
w3 =
    session "W3" 1
    (reset gives answer 0 0 0 0 ∷ control 0 32 gives answer 0 0 32 0 ∷ write 0 255 gives answer 0 0 255 0 ∷
    control 0 15 gives answer 0 0 15 0 ∷ control 0 131 gives answer 0 0 131 0 ∷ [])
    (every 0 (mode ≔ 0 ∷ out ≔ 255 ∷ vector ≔ 32 ∷ asked ≔ 1 ∷ levels ≔ 255 ∷ driven ≔ 255 ∷ []) ∷ [])

-- M1: mode 2, output: a write raises A's Ready, A's strobe low drives the lines
abbrev pub m1 : Row
m1 =
    session "M1" 1
    (control 0 143 gives answer 0 0 143 0 ∷ control 0 131 gives answer 0 0 131 0 ∷ fetch 0x00 gives answer 0 0 0 0 ∷
    write 0 165 gives answer 0 0 165 0 ∷ strobe_to 0 0 gives answer 0 0 0 0 ∷ [])
    (every 0 (mode ≔ 2 ∷ ready ≔ 1 ∷ out ≔ 165 ∷ strobe ≔ 0 ∷ asked ≔ 1 ∷ live ≔ 1 ∷ levels ≔ 165 ∷ driven ≔ 255 ∷ []) ∷ [])

-- M2: and the rise of A's strobe lowers Ready and A waits
abbrev pub m2 : Row
m2 =
    session "M2" 1
    (control 0 143 gives answer 0 0 143 0 ∷ control 0 131 gives answer 0 0 131 0 ∷ fetch 0x00 gives answer 0 0 0 0 ∷
    write 0 165 gives answer 0 0 165 0 ∷ strobe_to 0 0 gives answer 0 0 0 0 ∷ strobe_to 0 1 gives answer 0 0 1 1 ∷ [])
    (every 0 (mode ≔ 2 ∷ out ≔ 165 ∷ asked ≔ 1 ∷ live ≔ 1 ∷ waiting ≔ 1 ∷ []) ∷ [])

-- M3: mode 2, input: B's strobe low, A's register follows A's lines; at the rise B waits, with B's vector; A's
-- register stays
abbrev pub m3 : Row
m3 =
    session "M3" 1
    (control 0 143 gives answer 0 0 143 0 ∷ control 1 64 gives answer 0 1 64 0 ∷ control 1 131 gives answer 0 1 131 0 ∷
    fetch 0x00 gives answer 0 0 0 0 ∷ lines_to 0 85 gives answer 0 0 85 0 ∷ strobe_to 1 0 gives answer 0 1 0 0 ∷
    strobe_to 1 1 gives answer 0 1 1 2 ∷ lines_to 0 3 gives answer 0 0 3 2 ∷ read 0 gives answer 1 0 85 2 ∷
    acknowledge gives answer 2 1 64 0 ∷ [])
    (every 0 (mode ≔ 2 ∷ input ≔ 85 ∷ lines ≔ 3 ∷ []) ∷ every 1 (ready ≔ 1 ∷ vector ≔ 64 ∷ asked ≔ 1 ∷ live ≔ 1 ∷ service ≔ 1 ∷ []) ∷ [])

-- M4: mode 2: a read of A raises B's Ready; a mode word on B leaves it
abbrev pub m4 : Row
m4 =
    session "M4" 1
    (control 0 143 gives answer 0 0 143 0 ∷ read 0 gives answer 1 0 0 0 ∷ control 1 207 gives answer 0 1 207 0 ∷
    control 1 255 gives answer 0 1 255 0 ∷ [])
    (every 1 (mode ≔ 3 ∷ ready ≔ 1 ∷ select ≔ 255 ∷ []) ∷ [])

-- M5: A leaving mode 2 lowers B's Ready
abbrev pub m5 : Row
m5 =
    session "M5" 1
    (control 0 143 gives answer 0 0 143 0 ∷ read 0 gives answer 1 0 0 0 ∷ control 0 79 gives answer 0 0 79 0 ∷ [])
    (every 1 [] ∷ [])

-- M6: mode 2: B's own handshake is off, and its input register stays; a write and a read of B move data only
abbrev pub m6 : Row
m6 =
    session "M6" 1
    (lines_to 1 9 gives answer 0 1 9 0 ∷ control 0 143 gives answer 0 0 143 0 ∷ strobe_to 1 0 gives answer 0 1 0 0 ∷
    lines_to 1 77 gives answer 0 1 77 0 ∷ write 1 3 gives answer 0 1 3 0 ∷ read 1 gives answer 1 1 0 0 ∷ [])
    (every 1 (out ≔ 3 ∷ lines ≔ 77 ∷ strobe ≔ 0 ∷ []) ∷ [])

-- M7: mode 2: B's match is off
abbrev pub m7 : Row
m7 =
    session "M7" 1
    (control 1 207 gives answer 0 1 207 0 ∷ control 1 255 gives answer 0 1 255 0 ∷ control 1 183 gives answer 0 1 183 0 ∷
    control 1 254 gives answer 0 1 254 0 ∷ control 0 143 gives answer 0 0 143 0 ∷ fetch 0x00 gives answer 0 0 0 0 ∷
    lines_to 1 1 gives answer 0 1 1 0 ∷ [])
    (every 1 (mode ≔ 3 ∷ lines ≔ 1 ∷ select ≔ 255 ∷ mask ≔ 254 ∷ high ≔ 1 ∷ asked ≔ 1 ∷ live ≔ 1 ∷ []) ∷ [])

-- M8: mode 2: a write of B in mode 0 drives B's lines and leaves its Ready
abbrev pub m8 : Row
m8 =
    session "M8" 1
    (control 0 143 gives answer 0 0 143 0 ∷ control 1 15 gives answer 0 1 15 0 ∷ write 1 85 gives answer 0 1 85 0 ∷ [])
    (every 1 (mode ≔ 0 ∷ out ≔ 85 ∷ levels ≔ 85 ∷ driven ≔ 255 ∷ []) ∷ [])

-- R1: B in mode 0: the rise of B's strobe ends B's own output; a repeated level is no edge
abbrev pub r1 : Row
r1 =
    session "R1" 1
    (control 1 15 gives answer 0 1 15 0 ∷ write 1 7 gives answer 0 1 7 0 ∷ strobe_to 1 1 gives answer 0 1 1 0 ∷
    strobe_to 1 0 gives answer 0 1 0 0 ∷ strobe_to 1 1 gives answer 0 1 1 0 ∷ strobe_to 1 1 gives answer 0 1 1 0 ∷ [])
    (every 1 (mode ≔ 0 ∷ out ≔ 7 ∷ waiting ≔ 1 ∷ levels ≔ 7 ∷ driven ≔ 255 ∷ []) ∷ [])

-- R2: mode 1: with Strobe low the input register follows; a read gives it and raises Ready
abbrev pub r2 : Row
r2 =
    session "R2" 1
    (lines_to 0 85 gives answer 0 0 85 0 ∷ strobe_to 0 0 gives answer 0 0 0 0 ∷ strobe_to 0 1 gives answer 0 0 1 0 ∷
    lines_to 0 3 gives answer 0 0 3 0 ∷ read 0 gives answer 1 0 85 0 ∷ [])
    (every 0 (ready ≔ 1 ∷ input ≔ 85 ∷ lines ≔ 3 ∷ waiting ≔ 1 ∷ []) ∷ [])

-- R3: other than four bytes: 32; a fourth byte not 0: 18; a refusal of a sound board has that board's request
abbrev pub r3 : Row
r3 =
    session "R3" 1
    (control 0 131 gives answer 0 0 131 0 ∷ fetch 0x00 gives answer 0 0 0 0 ∷ strobe_to 0 0 gives answer 0 0 0 0 ∷
    strobe_to 0 1 gives answer 0 0 1 1 ∷ bytes (3 ∷ 0 ∷ 32 ∷ []) gives answer 32 0 0 0 ∷
    bytes (3 ∷ 0 ∷ 32 ∷ 0 ∷ 0 ∷ []) gives answer 32 0 0 0 ∷ bytes (9 ∷ 7 ∷ 7 ∷ 7 ∷ []) gives answer 16 7 7 1 ∷
    bytes (1 ∷ 0 ∷ 0 ∷ 1 ∷ []) gives answer 18 0 0 1 ∷ [])
    (every 0 (asked ≔ 1 ∷ live ≔ 1 ∷ waiting ≔ 1 ∷ []) ∷ [])

-- R4: "Order: 35, 16, 17, 18, 19, 20"; places of kinds 0 to 2, values of kinds 0, 2 and 5; an awaited byte that is
-- refused is awaited still
abbrev pub r4 : Row
r4 =
    session "R4" 1
    (bytes (9 ∷ 9 ∷ 9 ∷ 9 ∷ []) gives answer 16 9 9 0 ∷ bytes (2 ∷ 1 ∷ 5 ∷ 5 ∷ []) gives answer 17 1 5 0 ∷
    bytes (0 ∷ 1 ∷ 0 ∷ 0 ∷ []) gives answer 17 1 0 0 ∷ bytes (1 ∷ 1 ∷ 0 ∷ 0 ∷ []) gives answer 17 1 0 0 ∷
    bytes (0 ∷ 0 ∷ 1 ∷ 0 ∷ []) gives answer 18 0 1 0 ∷ bytes (2 ∷ 0 ∷ 1 ∷ 0 ∷ []) gives answer 18 0 1 0 ∷
    bytes (5 ∷ 0 ∷ 1 ∷ 0 ∷ []) gives answer 18 0 1 0 ∷ bytes (3 ∷ 1 ∷ 143 ∷ 1 ∷ []) gives answer 18 1 143 0 ∷
    control 0 207 gives answer 0 0 207 0 ∷ bytes (3 ∷ 0 ∷ 255 ∷ 1 ∷ []) gives answer 18 0 255 0 ∷ [])
    (every 0 (mode ≔ 3 ∷ awaiting ≔ 1 ∷ driven ≔ 255 ∷ []) ∷ [])

-- R5: enable on leaves live as it was; enable off takes asked and live at once, and the port goes on waiting
abbrev pub r5 : Row
r5 =
    session "R5" 1
    (control 0 131 gives answer 0 0 131 0 ∷ fetch 0x00 gives answer 0 0 0 0 ∷ strobe_to 0 0 gives answer 0 0 0 0 ∷
    strobe_to 0 1 gives answer 0 0 1 1 ∷ control 0 131 gives answer 0 0 131 1 ∷ control 0 3 gives answer 0 0 3 0 ∷
    fetch 0x00 gives answer 0 0 0 0 ∷ control 0 131 gives answer 0 0 131 0 ∷ fetch 0x00 gives answer 0 0 0 1 ∷ [])
    (every 0 (asked ≔ 1 ∷ live ≔ 1 ∷ waiting ≔ 1 ∷ []) ∷ [])

-- R6: bit 4 drops the waiting interrupt and awaits a mask, live goes off, and a fetch makes the port live only when
-- the mask has come
abbrev pub r6 : Row
r6 =
    session "R6" 1
    (control 0 131 gives answer 0 0 131 0 ∷ control 1 131 gives answer 0 1 131 0 ∷ fetch 0x00 gives answer 0 0 0 0 ∷
    strobe_to 0 0 gives answer 0 0 0 0 ∷ strobe_to 0 1 gives answer 0 0 1 1 ∷ control 0 151 gives answer 0 0 151 0 ∷
    control 1 151 gives answer 0 1 151 0 ∷ control 1 255 gives answer 0 1 255 0 ∷ fetch 0x00 gives answer 0 0 0 0 ∷ [])
    (every 0 (asked ≔ 1 ∷ awaiting ≔ 2 ∷ []) ∷ every 1 (asked ≔ 1 ∷ live ≔ 1 ∷ []) ∷ [])

-- R7: a mode word drops no waiting interrupt, and a fetch makes a port live that awaits select
abbrev pub r7 : Row
r7 =
    session "R7" 1
    (control 0 131 gives answer 0 0 131 0 ∷ strobe_to 0 0 gives answer 0 0 0 0 ∷ strobe_to 0 1 gives answer 0 0 1 0 ∷
    control 0 207 gives answer 0 0 207 0 ∷ fetch 0x00 gives answer 0 0 0 1 ∷ [])
    (every 0 (mode ≔ 3 ∷ asked ≔ 1 ∷ live ≔ 1 ∷ waiting ≔ 1 ∷ awaiting ≔ 1 ∷ driven ≔ 255 ∷ []) ∷ [])

-- R8: a control word can make a match: active Low without a new mask
abbrev pub r8 : Row
r8 =
    session "R8" 1
    (control 0 207 gives answer 0 0 207 0 ∷ control 0 255 gives answer 0 0 255 0 ∷ control 0 183 gives answer 0 0 183 0 ∷
    control 0 254 gives answer 0 0 254 0 ∷ fetch 0x00 gives answer 0 0 0 0 ∷ control 0 135 gives answer 0 0 135 1 ∷ [])
    (every 0 (mode ≔ 3 ∷ select ≔ 255 ∷ mask ≔ 254 ∷ asked ≔ 1 ∷ live ≔ 1 ∷ waiting ≔ 1 ∷ matched ≔ 1 ∷ []) ∷ [])

-- R9: an output bit never counts in the match
abbrev pub r9 : Row
r9 =
    session "R9" 1
    (control 0 207 gives answer 0 0 207 0 ∷ control 0 254 gives answer 0 0 254 0 ∷ control 0 183 gives answer 0 0 183 0 ∷
    control 0 254 gives answer 0 0 254 0 ∷ fetch 0x00 gives answer 0 0 0 0 ∷ write 0 1 gives answer 0 0 1 0 ∷
    lines_to 0 1 gives answer 0 0 1 0 ∷ [])
    (every 0 (mode ≔ 3 ∷ out ≔ 1 ∷ lines ≔ 1 ∷ select ≔ 254 ∷ mask ≔ 254 ∷ high ≔ 1 ∷ asked ≔ 1 ∷ live ≔ 1 ∷ levels ≔ 1 ∷ driven ≔ 1 ∷ []) ∷ [])

-- R10: while a word is awaited there is no match: when it has come, the level that still matches makes the port wait
-- again
abbrev pub r10 : Row
r10 =
    session "R10" 1
    (control 0 207 gives answer 0 0 207 0 ∷ control 0 255 gives answer 0 0 255 0 ∷ control 0 183 gives answer 0 0 183 0 ∷
    control 0 254 gives answer 0 0 254 0 ∷ fetch 0x00 gives answer 0 0 0 0 ∷ lines_to 0 1 gives answer 0 0 1 1 ∷
    acknowledge gives answer 2 0 0 0 ∷ fetch 0xED gives answer 0 0 237 0 ∷ fetch 0x4D gives answer 0 0 77 0 ∷
    control 0 207 gives answer 0 0 207 0 ∷ control 0 255 gives answer 0 0 255 1 ∷ [])
    (every 0 (mode ≔ 3 ∷ lines ≔ 1 ∷ select ≔ 255 ∷ mask ≔ 254 ∷ high ≔ 1 ∷ asked ≔ 1 ∷ live ≔ 1 ∷ waiting ≔ 1 ∷ matched ≔ 1 ∷ []) ∷ [])

-- R11: data in modes 0 and 3: a write raises Ready in mode 0, a mode word lowers it, a repeated strobe level is no
-- edge
abbrev pub r11 : Row
r11 =
    session "R11" 2
    (control 0 15 gives answer 0 0 15 0 ∷ write 0 65 gives answer 0 0 65 0 ∷ read 0 gives answer 1 0 65 0 ∷
    control 1 207 gives answer 0 1 207 0 ∷ control 1 240 gives answer 0 1 240 0 ∷ lines_to 1 170 gives answer 0 1 170 0 ∷
    write 1 85 gives answer 0 1 85 0 ∷ read 1 gives answer 1 1 165 0 ∷ control 2 15 gives answer 0 2 15 0 ∷
    write 2 1 gives answer 0 2 1 0 ∷ control 2 15 gives answer 0 2 15 0 ∷ strobe_to 3 1 gives answer 0 3 1 0 ∷ [])
    (every 0 (mode ≔ 0 ∷ ready ≔ 1 ∷ out ≔ 65 ∷ levels ≔ 65 ∷ driven ≔ 255 ∷ []) ∷
    every 1 (mode ≔ 3 ∷ out ≔ 85 ∷ lines ≔ 170 ∷ select ≔ 240 ∷ levels ≔ 5 ∷ driven ≔ 15 ∷ []) ∷
    every 2 (mode ≔ 0 ∷ out ≔ 1 ∷ levels ≔ 1 ∷ driven ≔ 255 ∷ []) ∷ every 3 [] ∷ [])

-- R12: a port under service asks no more and shuts out all behind it, also while it waits again
abbrev pub r12 : Row
r12 =
    session "R12" 1
    (control 0 131 gives answer 0 0 131 0 ∷ control 1 131 gives answer 0 1 131 0 ∷ fetch 0x00 gives answer 0 0 0 0 ∷
    strobe_to 0 0 gives answer 0 0 0 0 ∷ strobe_to 0 1 gives answer 0 0 1 1 ∷ acknowledge gives answer 2 0 0 0 ∷
    strobe_to 1 0 gives answer 0 1 0 0 ∷ strobe_to 1 1 gives answer 0 1 1 0 ∷ strobe_to 0 0 gives answer 0 0 0 0 ∷
    strobe_to 0 1 gives answer 0 0 1 0 ∷ acknowledge gives answer 3 0 255 0 ∷ fetch 0xED gives answer 0 0 237 0 ∷
    fetch 0x4D gives answer 0 0 77 1 ∷ [])
    (every 0 (asked ≔ 1 ∷ live ≔ 1 ∷ waiting ≔ 1 ∷ []) ∷ every 1 (asked ≔ 1 ∷ live ≔ 1 ∷ waiting ≔ 1 ∷ []) ∷ [])

-- R13: ED after ED closes; an acknowledge forgets an open ED; a write does not
abbrev pub r13 : Row
r13 =
    session "R13" 1
    (control 0 131 gives answer 0 0 131 0 ∷ control 1 131 gives answer 0 1 131 0 ∷ fetch 0x00 gives answer 0 0 0 0 ∷
    strobe_to 0 0 gives answer 0 0 0 0 ∷ strobe_to 0 1 gives answer 0 0 1 1 ∷ acknowledge gives answer 2 0 0 0 ∷
    strobe_to 1 0 gives answer 0 1 0 0 ∷ strobe_to 1 1 gives answer 0 1 1 0 ∷ fetch 0xED gives answer 0 0 237 0 ∷
    fetch 0xED gives answer 0 0 237 0 ∷ fetch 0x4D gives answer 0 0 77 0 ∷ fetch 0xED gives answer 0 0 237 0 ∷
    acknowledge gives answer 3 0 255 0 ∷ fetch 0x4D gives answer 0 0 77 0 ∷ fetch 0xED gives answer 0 0 237 0 ∷
    write 0 1 gives answer 0 0 1 0 ∷ fetch 0x4D gives answer 0 0 77 2 ∷ [])
    (every 0 (out ≔ 1 ∷ asked ≔ 1 ∷ live ≔ 1 ∷ []) ∷ every 1 (asked ≔ 1 ∷ live ≔ 1 ∷ waiting ≔ 1 ∷ []) ∷ [])

-- R14: the fetch that ends a RETI both releases and makes live
abbrev pub r14 : Row
r14 =
    session "R14" 1
    (control 1 131 gives answer 0 1 131 0 ∷ fetch 0x00 gives answer 0 0 0 0 ∷ strobe_to 1 0 gives answer 0 1 0 0 ∷
    strobe_to 1 1 gives answer 0 1 1 2 ∷ acknowledge gives answer 2 1 0 0 ∷ fetch 0xED gives answer 0 0 237 0 ∷
    control 0 131 gives answer 0 0 131 0 ∷ strobe_to 0 0 gives answer 0 0 0 0 ∷ strobe_to 0 1 gives answer 0 0 1 0 ∷
    fetch 0x4D gives answer 0 0 77 1 ∷ [])
    (every 0 (asked ≔ 1 ∷ live ≔ 1 ∷ waiting ≔ 1 ∷ []) ∷ every 1 (asked ≔ 1 ∷ live ≔ 1 ∷ []) ∷ [])

-- R15: reset: A was under service, waited again and had Ready high; B had vector 64, mask 0 and output 85. After it a
-- fetch makes A live no more, B in mode 3 has mask 255 and output 0, and answers with the vector that it kept
abbrev pub r15 : Row
r15 =
    session "R15" 1
    (control 0 131 gives answer 0 0 131 0 ∷ fetch 0x00 gives answer 0 0 0 0 ∷ strobe_to 0 0 gives answer 0 0 0 0 ∷
    strobe_to 0 1 gives answer 0 0 1 1 ∷ acknowledge gives answer 2 0 0 0 ∷ strobe_to 0 0 gives answer 0 0 0 0 ∷
    strobe_to 0 1 gives answer 0 0 1 0 ∷ control 0 15 gives answer 0 0 15 0 ∷ write 0 9 gives answer 0 0 9 0 ∷
    control 1 64 gives answer 0 1 64 0 ∷ control 1 183 gives answer 0 1 183 0 ∷ control 1 0 gives answer 0 1 0 0 ∷
    write 1 85 gives answer 0 1 85 0 ∷ reset gives answer 0 0 0 0 ∷ control 1 207 gives answer 0 1 207 0 ∷
    control 1 240 gives answer 0 1 240 0 ∷ control 1 167 gives answer 0 1 167 0 ∷ fetch 0x00 gives answer 0 0 0 0 ∷
    lines_to 1 255 gives answer 0 1 255 0 ∷ control 1 183 gives answer 0 1 183 0 ∷ control 1 15 gives answer 0 1 15 0 ∷
    fetch 0x00 gives answer 0 0 0 2 ∷ acknowledge gives answer 2 1 64 0 ∷ [])
    (every 0 [] ∷
    every 1 (mode ≔ 3 ∷ lines ≔ 255 ∷ vector ≔ 64 ∷ select ≔ 240 ∷ mask ≔ 15 ∷ high ≔ 1 ∷ asked ≔ 1 ∷ live ≔ 1 ∷ service ≔ 1 ∷ matched ≔ 1 ∷ driven ≔ 15 ∷ []) ∷ [])

-- F1: two chips on which little is as on a fresh board: 0 and 2 have every flag set and their strobes low, 1 and 3
-- have none, but 3 is asked and not live. 0 is in mode 0, 1 and 2 in mode 1, 3 in mode 3. The cases after it hold each
-- event to what its rule changes
abbrev pub f1 : Row
f1 =
    session "F1" 2
    (lines_to 0 85 ∷ strobe_to 0 0 ∷ strobe_to 0 1 ∷ control 0 207 ∷ control 0 90 ∷ control 0 79 ∷ control 0 55 ∷ control 0 102 ∷
    control 0 16 ∷ lines_to 1 77 ∷ strobe_to 1 0 ∷ strobe_to 1 1 ∷ control 1 207 ∷ control 1 150 ∷ control 1 79 ∷ control 1 23 ∷
    control 1 105 ∷ control 1 34 ∷ lines_to 1 40 ∷ write 1 33 ∷ control 2 207 ∷ control 2 60 ∷ control 2 79 ∷ control 2 55 ∷
    control 2 195 ∷ control 2 52 ∷ write 2 89 ∷ lines_to 3 99 ∷ strobe_to 3 0 ∷ strobe_to 3 1 ∷ control 3 207 ∷ control 3 108 ∷
    control 3 79 ∷ control 3 23 ∷ control 3 147 ∷ control 3 70 ∷ lines_to 3 238 ∷ control 3 207 ∷ control 3 108 ∷ write 3 44 ∷
    control 0 231 ∷ control 2 231 ∷ fetch 0x00 ∷ strobe_to 2 0 ∷ strobe_to 2 1 ∷ acknowledge ∷ strobe_to 0 0 ∷ strobe_to 0 1 ∷
    acknowledge ∷ strobe_to 0 0 ∷ strobe_to 0 1 ∷ strobe_to 2 0 ∷ strobe_to 2 1 ∷ control 0 15 ∷ write 0 165 ∷ strobe_to 0 0 ∷
    lines_to 0 170 ∷ strobe_to 2 0 ∷ lines_to 2 51 ∷ read 2 ∷ control 1 23 ∷ control 3 131 ∷ [])
    (every 0 (mode ≔ 0 ∷ ready ≔ 1 ∷ out ≔ 165 ∷ input ≔ 85 ∷ lines ≔ 170 ∷ strobe ≔ 0 ∷ vector ≔ 16 ∷ select ≔ 90 ∷ mask ≔ 102 ∷ and ≔ 1 ∷ high ≔ 1 ∷ asked ≔ 1 ∷ live ≔ 1 ∷ waiting ≔ 1 ∷ service ≔ 1 ∷ levels ≔ 165 ∷ driven ≔ 255 ∷ []) ∷
    every 1 (out ≔ 33 ∷ input ≔ 77 ∷ lines ≔ 40 ∷ vector ≔ 34 ∷ select ≔ 150 ∷ mask ≔ 105 ∷ awaiting ≔ 2 ∷ []) ∷
    every 2 (ready ≔ 1 ∷ out ≔ 89 ∷ input ≔ 51 ∷ lines ≔ 51 ∷ strobe ≔ 0 ∷ vector ≔ 52 ∷ select ≔ 60 ∷ mask ≔ 195 ∷ and ≔ 1 ∷ high ≔ 1 ∷ asked ≔ 1 ∷ live ≔ 1 ∷ waiting ≔ 1 ∷ service ≔ 1 ∷ []) ∷
    every 3 (mode ≔ 3 ∷ out ≔ 44 ∷ input ≔ 99 ∷ lines ≔ 238 ∷ vector ≔ 70 ∷ select ≔ 108 ∷ mask ≔ 147 ∷ asked ≔ 1 ∷ driven ≔ 147 ∷ []) ∷ [])

-- F2: a fetch: the asked port is live
abbrev pub f2 : Row
f2 =
    session "F2" 2
    (after f1 (fetch 0x00 gives answer 0 0 0 0 ∷ []))
    (every 0 (mode ≔ 0 ∷ ready ≔ 1 ∷ out ≔ 165 ∷ input ≔ 85 ∷ lines ≔ 170 ∷ strobe ≔ 0 ∷ vector ≔ 16 ∷ select ≔ 90 ∷ mask ≔ 102 ∷ and ≔ 1 ∷ high ≔ 1 ∷ asked ≔ 1 ∷ live ≔ 1 ∷ waiting ≔ 1 ∷ service ≔ 1 ∷ levels ≔ 165 ∷ driven ≔ 255 ∷ []) ∷
    every 1 (out ≔ 33 ∷ input ≔ 77 ∷ lines ≔ 40 ∷ vector ≔ 34 ∷ select ≔ 150 ∷ mask ≔ 105 ∷ awaiting ≔ 2 ∷ []) ∷
    every 2 (ready ≔ 1 ∷ out ≔ 89 ∷ input ≔ 51 ∷ lines ≔ 51 ∷ strobe ≔ 0 ∷ vector ≔ 52 ∷ select ≔ 60 ∷ mask ≔ 195 ∷ and ≔ 1 ∷ high ≔ 1 ∷ asked ≔ 1 ∷ live ≔ 1 ∷ waiting ≔ 1 ∷ service ≔ 1 ∷ []) ∷
    every 3 (mode ≔ 3 ∷ out ≔ 44 ∷ input ≔ 99 ∷ lines ≔ 238 ∷ vector ≔ 70 ∷ select ≔ 108 ∷ mask ≔ 147 ∷ asked ≔ 1 ∷ live ≔ 1 ∷ driven ≔ 147 ∷ []) ∷ [])

-- F3: an acknowledge that nobody answers
abbrev pub f3 : Row
f3 =
    session "F3" 2
    (after f1 (acknowledge gives answer 3 0 255 0 ∷ []))
    (every 0 (mode ≔ 0 ∷ ready ≔ 1 ∷ out ≔ 165 ∷ input ≔ 85 ∷ lines ≔ 170 ∷ strobe ≔ 0 ∷ vector ≔ 16 ∷ select ≔ 90 ∷ mask ≔ 102 ∷ and ≔ 1 ∷ high ≔ 1 ∷ asked ≔ 1 ∷ live ≔ 1 ∷ waiting ≔ 1 ∷ service ≔ 1 ∷ levels ≔ 165 ∷ driven ≔ 255 ∷ []) ∷
    every 1 (out ≔ 33 ∷ input ≔ 77 ∷ lines ≔ 40 ∷ vector ≔ 34 ∷ select ≔ 150 ∷ mask ≔ 105 ∷ awaiting ≔ 2 ∷ []) ∷
    every 2 (ready ≔ 1 ∷ out ≔ 89 ∷ input ≔ 51 ∷ lines ≔ 51 ∷ strobe ≔ 0 ∷ vector ≔ 52 ∷ select ≔ 60 ∷ mask ≔ 195 ∷ and ≔ 1 ∷ high ≔ 1 ∷ asked ≔ 1 ∷ live ≔ 1 ∷ waiting ≔ 1 ∷ service ≔ 1 ∷ []) ∷
    every 3 (mode ≔ 3 ∷ out ≔ 44 ∷ input ≔ 99 ∷ lines ≔ 238 ∷ vector ≔ 70 ∷ select ≔ 108 ∷ mask ≔ 147 ∷ asked ≔ 1 ∷ driven ≔ 147 ∷ []) ∷ [])

-- F4: vector words: the vector alone
abbrev pub f4 : Row
f4 =
    session "F4" 2
    (after f1 (control 0 18 ∷ control 2 54 ∷ control 3 72 gives answer 0 3 72 0 ∷ []))
    (every 0 (mode ≔ 0 ∷ ready ≔ 1 ∷ out ≔ 165 ∷ input ≔ 85 ∷ lines ≔ 170 ∷ strobe ≔ 0 ∷ vector ≔ 18 ∷ select ≔ 90 ∷ mask ≔ 102 ∷ and ≔ 1 ∷ high ≔ 1 ∷ asked ≔ 1 ∷ live ≔ 1 ∷ waiting ≔ 1 ∷ service ≔ 1 ∷ levels ≔ 165 ∷ driven ≔ 255 ∷ []) ∷
    every 1 (out ≔ 33 ∷ input ≔ 77 ∷ lines ≔ 40 ∷ vector ≔ 34 ∷ select ≔ 150 ∷ mask ≔ 105 ∷ awaiting ≔ 2 ∷ []) ∷
    every 2 (ready ≔ 1 ∷ out ≔ 89 ∷ input ≔ 51 ∷ lines ≔ 51 ∷ strobe ≔ 0 ∷ vector ≔ 54 ∷ select ≔ 60 ∷ mask ≔ 195 ∷ and ≔ 1 ∷ high ≔ 1 ∷ asked ≔ 1 ∷ live ≔ 1 ∷ waiting ≔ 1 ∷ service ≔ 1 ∷ []) ∷
    every 3 (mode ≔ 3 ∷ out ≔ 44 ∷ input ≔ 99 ∷ lines ≔ 238 ∷ vector ≔ 72 ∷ select ≔ 108 ∷ mask ≔ 147 ∷ asked ≔ 1 ∷ driven ≔ 147 ∷ []) ∷ [])

-- F5: mode words: the mode, and Ready falls
abbrev pub f5 : Row
f5 =
    session "F5" 2
    (after f1 (control 0 15 ∷ control 2 79 ∷ control 3 79 gives answer 0 3 79 0 ∷ []))
    (every 0 (mode ≔ 0 ∷ out ≔ 165 ∷ input ≔ 85 ∷ lines ≔ 170 ∷ strobe ≔ 0 ∷ vector ≔ 16 ∷ select ≔ 90 ∷ mask ≔ 102 ∷ and ≔ 1 ∷ high ≔ 1 ∷ asked ≔ 1 ∷ live ≔ 1 ∷ waiting ≔ 1 ∷ service ≔ 1 ∷ levels ≔ 165 ∷ driven ≔ 255 ∷ []) ∷
    every 1 (out ≔ 33 ∷ input ≔ 77 ∷ lines ≔ 40 ∷ vector ≔ 34 ∷ select ≔ 150 ∷ mask ≔ 105 ∷ awaiting ≔ 2 ∷ []) ∷
    every 2 (out ≔ 89 ∷ input ≔ 51 ∷ lines ≔ 51 ∷ strobe ≔ 0 ∷ vector ≔ 52 ∷ select ≔ 60 ∷ mask ≔ 195 ∷ and ≔ 1 ∷ high ≔ 1 ∷ asked ≔ 1 ∷ live ≔ 1 ∷ waiting ≔ 1 ∷ service ≔ 1 ∷ []) ∷
    every 3 (out ≔ 44 ∷ input ≔ 99 ∷ lines ≔ 238 ∷ vector ≔ 70 ∷ select ≔ 108 ∷ mask ≔ 147 ∷ asked ≔ 1 ∷ []) ∷ [])

-- F6: mode 3 words and select words: the mode, the select register, and Ready falls
abbrev pub f6 : Row
f6 =
    session "F6" 2
    (after f1 (control 0 207 ∷ control 0 240 ∷ control 2 207 ∷ control 2 15 ∷ control 3 207 ∷ control 3 240 gives answer 0 3 240 0 ∷ []))
    (every 0 (mode ≔ 3 ∷ out ≔ 165 ∷ input ≔ 85 ∷ lines ≔ 170 ∷ strobe ≔ 0 ∷ vector ≔ 16 ∷ select ≔ 240 ∷ mask ≔ 102 ∷ and ≔ 1 ∷ high ≔ 1 ∷ asked ≔ 1 ∷ live ≔ 1 ∷ waiting ≔ 1 ∷ service ≔ 1 ∷ levels ≔ 5 ∷ driven ≔ 15 ∷ []) ∷
    every 1 (out ≔ 33 ∷ input ≔ 77 ∷ lines ≔ 40 ∷ vector ≔ 34 ∷ select ≔ 150 ∷ mask ≔ 105 ∷ awaiting ≔ 2 ∷ []) ∷
    every 2 (mode ≔ 3 ∷ out ≔ 89 ∷ input ≔ 51 ∷ lines ≔ 51 ∷ strobe ≔ 0 ∷ vector ≔ 52 ∷ select ≔ 15 ∷ mask ≔ 195 ∷ and ≔ 1 ∷ high ≔ 1 ∷ asked ≔ 1 ∷ live ≔ 1 ∷ waiting ≔ 1 ∷ service ≔ 1 ∷ levels ≔ 80 ∷ driven ≔ 240 ∷ []) ∷
    every 3 (mode ≔ 3 ∷ out ≔ 44 ∷ input ≔ 99 ∷ lines ≔ 238 ∷ vector ≔ 70 ∷ select ≔ 240 ∷ mask ≔ 147 ∷ asked ≔ 1 ∷ levels ≔ 12 ∷ driven ≔ 15 ∷ []) ∷ [])

-- F7: interrupt control words that say what is so already
abbrev pub f7 : Row
f7 =
    session "F7" 2
    (after f1 (control 0 231 ∷ control 2 231 ∷ control 3 135 gives answer 0 3 135 0 ∷ []))
    (every 0 (mode ≔ 0 ∷ ready ≔ 1 ∷ out ≔ 165 ∷ input ≔ 85 ∷ lines ≔ 170 ∷ strobe ≔ 0 ∷ vector ≔ 16 ∷ select ≔ 90 ∷ mask ≔ 102 ∷ and ≔ 1 ∷ high ≔ 1 ∷ asked ≔ 1 ∷ live ≔ 1 ∷ waiting ≔ 1 ∷ service ≔ 1 ∷ levels ≔ 165 ∷ driven ≔ 255 ∷ []) ∷
    every 1 (out ≔ 33 ∷ input ≔ 77 ∷ lines ≔ 40 ∷ vector ≔ 34 ∷ select ≔ 150 ∷ mask ≔ 105 ∷ awaiting ≔ 2 ∷ []) ∷
    every 2 (ready ≔ 1 ∷ out ≔ 89 ∷ input ≔ 51 ∷ lines ≔ 51 ∷ strobe ≔ 0 ∷ vector ≔ 52 ∷ select ≔ 60 ∷ mask ≔ 195 ∷ and ≔ 1 ∷ high ≔ 1 ∷ asked ≔ 1 ∷ live ≔ 1 ∷ waiting ≔ 1 ∷ service ≔ 1 ∷ []) ∷
    every 3 (mode ≔ 3 ∷ out ≔ 44 ∷ input ≔ 99 ∷ lines ≔ 238 ∷ vector ≔ 70 ∷ select ≔ 108 ∷ mask ≔ 147 ∷ asked ≔ 1 ∷ driven ≔ 147 ∷ []) ∷ [])

-- F8: interrupt control words with bit 4: no longer waiting, not live, mask awaited
abbrev pub f8 : Row
f8 =
    session "F8" 2
    (after f1 (control 0 247 ∷ control 2 247 ∷ control 3 151 gives answer 0 3 151 0 ∷ []))
    (every 0 (mode ≔ 0 ∷ ready ≔ 1 ∷ out ≔ 165 ∷ input ≔ 85 ∷ lines ≔ 170 ∷ strobe ≔ 0 ∷ vector ≔ 16 ∷ select ≔ 90 ∷ mask ≔ 102 ∷ and ≔ 1 ∷ high ≔ 1 ∷ asked ≔ 1 ∷ service ≔ 1 ∷ awaiting ≔ 2 ∷ levels ≔ 165 ∷ driven ≔ 255 ∷ []) ∷
    every 1 (out ≔ 33 ∷ input ≔ 77 ∷ lines ≔ 40 ∷ vector ≔ 34 ∷ select ≔ 150 ∷ mask ≔ 105 ∷ awaiting ≔ 2 ∷ []) ∷
    every 2 (ready ≔ 1 ∷ out ≔ 89 ∷ input ≔ 51 ∷ lines ≔ 51 ∷ strobe ≔ 0 ∷ vector ≔ 52 ∷ select ≔ 60 ∷ mask ≔ 195 ∷ and ≔ 1 ∷ high ≔ 1 ∷ asked ≔ 1 ∷ service ≔ 1 ∷ awaiting ≔ 2 ∷ []) ∷
    every 3 (mode ≔ 3 ∷ out ≔ 44 ∷ input ≔ 99 ∷ lines ≔ 238 ∷ vector ≔ 70 ∷ select ≔ 108 ∷ mask ≔ 147 ∷ asked ≔ 1 ∷ awaiting ≔ 2 ∷ driven ≔ 147 ∷ []) ∷ [])

-- F9: and masks: the mask too
abbrev pub f9 : Row
f9 =
    session "F9" 2
    (after f1 (control 0 247 ∷ control 0 60 ∷ control 2 247 ∷ control 2 60 ∷ control 3 151 ∷ control 3 60 gives answer 0 3 60 0 ∷ []))
    (every 0 (mode ≔ 0 ∷ ready ≔ 1 ∷ out ≔ 165 ∷ input ≔ 85 ∷ lines ≔ 170 ∷ strobe ≔ 0 ∷ vector ≔ 16 ∷ select ≔ 90 ∷ mask ≔ 60 ∷ and ≔ 1 ∷ high ≔ 1 ∷ asked ≔ 1 ∷ service ≔ 1 ∷ levels ≔ 165 ∷ driven ≔ 255 ∷ []) ∷
    every 1 (out ≔ 33 ∷ input ≔ 77 ∷ lines ≔ 40 ∷ vector ≔ 34 ∷ select ≔ 150 ∷ mask ≔ 105 ∷ awaiting ≔ 2 ∷ []) ∷
    every 2 (ready ≔ 1 ∷ out ≔ 89 ∷ input ≔ 51 ∷ lines ≔ 51 ∷ strobe ≔ 0 ∷ vector ≔ 52 ∷ select ≔ 60 ∷ mask ≔ 60 ∷ and ≔ 1 ∷ high ≔ 1 ∷ asked ≔ 1 ∷ service ≔ 1 ∷ []) ∷
    every 3 (mode ≔ 3 ∷ out ≔ 44 ∷ input ≔ 99 ∷ lines ≔ 238 ∷ vector ≔ 70 ∷ select ≔ 108 ∷ mask ≔ 60 ∷ asked ≔ 1 ∷ driven ≔ 147 ∷ []) ∷ [])

-- F10: enable words that say what is so already
abbrev pub f10 : Row
f10 =
    session "F10" 2
    (after f1 (control 0 131 ∷ control 2 131 ∷ control 3 131 gives answer 0 3 131 0 ∷ []))
    (every 0 (mode ≔ 0 ∷ ready ≔ 1 ∷ out ≔ 165 ∷ input ≔ 85 ∷ lines ≔ 170 ∷ strobe ≔ 0 ∷ vector ≔ 16 ∷ select ≔ 90 ∷ mask ≔ 102 ∷ and ≔ 1 ∷ high ≔ 1 ∷ asked ≔ 1 ∷ live ≔ 1 ∷ waiting ≔ 1 ∷ service ≔ 1 ∷ levels ≔ 165 ∷ driven ≔ 255 ∷ []) ∷
    every 1 (out ≔ 33 ∷ input ≔ 77 ∷ lines ≔ 40 ∷ vector ≔ 34 ∷ select ≔ 150 ∷ mask ≔ 105 ∷ awaiting ≔ 2 ∷ []) ∷
    every 2 (ready ≔ 1 ∷ out ≔ 89 ∷ input ≔ 51 ∷ lines ≔ 51 ∷ strobe ≔ 0 ∷ vector ≔ 52 ∷ select ≔ 60 ∷ mask ≔ 195 ∷ and ≔ 1 ∷ high ≔ 1 ∷ asked ≔ 1 ∷ live ≔ 1 ∷ waiting ≔ 1 ∷ service ≔ 1 ∷ []) ∷
    every 3 (mode ≔ 3 ∷ out ≔ 44 ∷ input ≔ 99 ∷ lines ≔ 238 ∷ vector ≔ 70 ∷ select ≔ 108 ∷ mask ≔ 147 ∷ asked ≔ 1 ∷ driven ≔ 147 ∷ []) ∷ [])

-- F11: writes: the output register
abbrev pub f11 : Row
f11 =
    session "F11" 2
    (after f1 (write 0 66 ∷ write 2 67 ∷ write 3 77 gives answer 0 3 77 0 ∷ []))
    (every 0 (mode ≔ 0 ∷ ready ≔ 1 ∷ out ≔ 66 ∷ input ≔ 85 ∷ lines ≔ 170 ∷ strobe ≔ 0 ∷ vector ≔ 16 ∷ select ≔ 90 ∷ mask ≔ 102 ∷ and ≔ 1 ∷ high ≔ 1 ∷ asked ≔ 1 ∷ live ≔ 1 ∷ waiting ≔ 1 ∷ service ≔ 1 ∷ levels ≔ 66 ∷ driven ≔ 255 ∷ []) ∷
    every 1 (out ≔ 33 ∷ input ≔ 77 ∷ lines ≔ 40 ∷ vector ≔ 34 ∷ select ≔ 150 ∷ mask ≔ 105 ∷ awaiting ≔ 2 ∷ []) ∷
    every 2 (ready ≔ 1 ∷ out ≔ 67 ∷ input ≔ 51 ∷ lines ≔ 51 ∷ strobe ≔ 0 ∷ vector ≔ 52 ∷ select ≔ 60 ∷ mask ≔ 195 ∷ and ≔ 1 ∷ high ≔ 1 ∷ asked ≔ 1 ∷ live ≔ 1 ∷ waiting ≔ 1 ∷ service ≔ 1 ∷ []) ∷
    every 3 (mode ≔ 3 ∷ out ≔ 77 ∷ input ≔ 99 ∷ lines ≔ 238 ∷ vector ≔ 70 ∷ select ≔ 108 ∷ mask ≔ 147 ∷ asked ≔ 1 ∷ levels ≔ 1 ∷ driven ≔ 147 ∷ []) ∷ [])

-- F12: reads: nothing, since Ready is high at 2
abbrev pub f12 : Row
f12 =
    session "F12" 2
    (after f1 (read 0 ∷ read 2 ∷ read 3 gives answer 1 3 108 0 ∷ []))
    (every 0 (mode ≔ 0 ∷ ready ≔ 1 ∷ out ≔ 165 ∷ input ≔ 85 ∷ lines ≔ 170 ∷ strobe ≔ 0 ∷ vector ≔ 16 ∷ select ≔ 90 ∷ mask ≔ 102 ∷ and ≔ 1 ∷ high ≔ 1 ∷ asked ≔ 1 ∷ live ≔ 1 ∷ waiting ≔ 1 ∷ service ≔ 1 ∷ levels ≔ 165 ∷ driven ≔ 255 ∷ []) ∷
    every 1 (out ≔ 33 ∷ input ≔ 77 ∷ lines ≔ 40 ∷ vector ≔ 34 ∷ select ≔ 150 ∷ mask ≔ 105 ∷ awaiting ≔ 2 ∷ []) ∷
    every 2 (ready ≔ 1 ∷ out ≔ 89 ∷ input ≔ 51 ∷ lines ≔ 51 ∷ strobe ≔ 0 ∷ vector ≔ 52 ∷ select ≔ 60 ∷ mask ≔ 195 ∷ and ≔ 1 ∷ high ≔ 1 ∷ asked ≔ 1 ∷ live ≔ 1 ∷ waiting ≔ 1 ∷ service ≔ 1 ∷ []) ∷
    every 3 (mode ≔ 3 ∷ out ≔ 44 ∷ input ≔ 99 ∷ lines ≔ 238 ∷ vector ≔ 70 ∷ select ≔ 108 ∷ mask ≔ 147 ∷ asked ≔ 1 ∷ driven ≔ 147 ∷ []) ∷ [])

-- F13: strobes, rises in modes 0 and 1 and a fall in mode 3: the level, and Ready falls at 0 and 2
abbrev pub f13 : Row
f13 =
    session "F13" 2
    (after f1 (strobe_to 0 1 ∷ strobe_to 2 1 ∷ strobe_to 3 0 gives answer 0 3 0 0 ∷ []))
    (every 0 (mode ≔ 0 ∷ out ≔ 165 ∷ input ≔ 85 ∷ lines ≔ 170 ∷ vector ≔ 16 ∷ select ≔ 90 ∷ mask ≔ 102 ∷ and ≔ 1 ∷ high ≔ 1 ∷ asked ≔ 1 ∷ live ≔ 1 ∷ waiting ≔ 1 ∷ service ≔ 1 ∷ levels ≔ 165 ∷ driven ≔ 255 ∷ []) ∷
    every 1 (out ≔ 33 ∷ input ≔ 77 ∷ lines ≔ 40 ∷ vector ≔ 34 ∷ select ≔ 150 ∷ mask ≔ 105 ∷ awaiting ≔ 2 ∷ []) ∷
    every 2 (out ≔ 89 ∷ input ≔ 51 ∷ lines ≔ 51 ∷ vector ≔ 52 ∷ select ≔ 60 ∷ mask ≔ 195 ∷ and ≔ 1 ∷ high ≔ 1 ∷ asked ≔ 1 ∷ live ≔ 1 ∷ waiting ≔ 1 ∷ service ≔ 1 ∷ []) ∷
    every 3 (mode ≔ 3 ∷ out ≔ 44 ∷ input ≔ 99 ∷ lines ≔ 238 ∷ strobe ≔ 0 ∷ vector ≔ 70 ∷ select ≔ 108 ∷ mask ≔ 147 ∷ asked ≔ 1 ∷ driven ≔ 147 ∷ []) ∷ [])

-- F14: outside levels: the levels, and the register that follows at 2
abbrev pub f14 : Row
f14 =
    session "F14" 2
    (after f1 (lines_to 0 15 ∷ lines_to 2 15 ∷ lines_to 3 255 gives answer 0 3 255 0 ∷ []))
    (every 0 (mode ≔ 0 ∷ ready ≔ 1 ∷ out ≔ 165 ∷ input ≔ 85 ∷ lines ≔ 15 ∷ strobe ≔ 0 ∷ vector ≔ 16 ∷ select ≔ 90 ∷ mask ≔ 102 ∷ and ≔ 1 ∷ high ≔ 1 ∷ asked ≔ 1 ∷ live ≔ 1 ∷ waiting ≔ 1 ∷ service ≔ 1 ∷ levels ≔ 165 ∷ driven ≔ 255 ∷ []) ∷
    every 1 (out ≔ 33 ∷ input ≔ 77 ∷ lines ≔ 40 ∷ vector ≔ 34 ∷ select ≔ 150 ∷ mask ≔ 105 ∷ awaiting ≔ 2 ∷ []) ∷
    every 2 (ready ≔ 1 ∷ out ≔ 89 ∷ input ≔ 15 ∷ lines ≔ 15 ∷ strobe ≔ 0 ∷ vector ≔ 52 ∷ select ≔ 60 ∷ mask ≔ 195 ∷ and ≔ 1 ∷ high ≔ 1 ∷ asked ≔ 1 ∷ live ≔ 1 ∷ waiting ≔ 1 ∷ service ≔ 1 ∷ []) ∷
    every 3 (mode ≔ 3 ∷ out ≔ 44 ∷ input ≔ 99 ∷ lines ≔ 255 ∷ vector ≔ 70 ∷ select ≔ 108 ∷ mask ≔ 147 ∷ asked ≔ 1 ∷ driven ≔ 147 ∷ []) ∷ [])

-- F15: a reset
abbrev pub f15 : Row
f15 =
    session "F15" 2
    (after f1 (reset gives answer 0 0 0 0 ∷ []))
    (every 0 (input ≔ 170 ∷ lines ≔ 170 ∷ strobe ≔ 0 ∷ vector ≔ 16 ∷ select ≔ 90 ∷ and ≔ 1 ∷ high ≔ 1 ∷ []) ∷
    every 1 (input ≔ 77 ∷ lines ≔ 40 ∷ vector ≔ 34 ∷ select ≔ 150 ∷ []) ∷
    every 2 (input ≔ 51 ∷ lines ≔ 51 ∷ strobe ≔ 0 ∷ vector ≔ 52 ∷ select ≔ 60 ∷ and ≔ 1 ∷ high ≔ 1 ∷ []) ∷
    every 3 (input ≔ 99 ∷ lines ≔ 238 ∷ vector ≔ 70 ∷ select ≔ 108 ∷ []) ∷ [])

-- F16: a chip with A in mode 2 and B in mode 3, every flag of both set, A's strobe low and B's high. The cases after
-- it hold each event at A and then at B to what its rule changes
abbrev pub f16 : Row
f16 =
    session "F16" 1
    (lines_to 0 85 ∷ strobe_to 0 0 ∷ strobe_to 0 1 ∷ control 0 207 ∷ control 0 90 ∷ control 0 79 ∷ control 0 55 ∷ control 0 102 ∷
    control 0 16 ∷ lines_to 1 77 ∷ strobe_to 1 0 ∷ strobe_to 1 1 ∷ control 1 207 ∷ control 1 150 ∷ control 1 79 ∷ control 1 55 ∷
    control 1 105 ∷ control 1 34 ∷ write 1 33 ∷ control 0 231 ∷ control 1 231 ∷ fetch 0x00 ∷ strobe_to 1 0 ∷ strobe_to 1 1 ∷
    acknowledge ∷ strobe_to 0 0 ∷ strobe_to 0 1 ∷ acknowledge ∷ strobe_to 0 0 ∷ strobe_to 0 1 ∷ strobe_to 1 0 ∷ strobe_to 1 1 ∷
    lines_to 1 40 ∷ control 1 207 ∷ control 1 150 ∷ control 0 143 ∷ write 0 165 ∷ read 0 ∷ strobe_to 0 0 ∷ lines_to 0 170 ∷ [])
    (every 0 (mode ≔ 2 ∷ ready ≔ 1 ∷ out ≔ 165 ∷ input ≔ 85 ∷ lines ≔ 170 ∷ strobe ≔ 0 ∷ vector ≔ 16 ∷ select ≔ 90 ∷ mask ≔ 102 ∷ and ≔ 1 ∷ high ≔ 1 ∷ asked ≔ 1 ∷ live ≔ 1 ∷ waiting ≔ 1 ∷ service ≔ 1 ∷ levels ≔ 165 ∷ driven ≔ 255 ∷ []) ∷
    every 1 (mode ≔ 3 ∷ ready ≔ 1 ∷ out ≔ 33 ∷ input ≔ 77 ∷ lines ≔ 40 ∷ vector ≔ 34 ∷ select ≔ 150 ∷ mask ≔ 105 ∷ and ≔ 1 ∷ high ≔ 1 ∷ asked ≔ 1 ∷ live ≔ 1 ∷ waiting ≔ 1 ∷ service ≔ 1 ∷ levels ≔ 33 ∷ driven ≔ 105 ∷ []) ∷ [])

-- F17: a fetch
abbrev pub f17 : Row
f17 =
    session "F17" 1
    (after f16 (fetch 0x00 gives answer 0 0 0 0 ∷ []))
    (every 0 (mode ≔ 2 ∷ ready ≔ 1 ∷ out ≔ 165 ∷ input ≔ 85 ∷ lines ≔ 170 ∷ strobe ≔ 0 ∷ vector ≔ 16 ∷ select ≔ 90 ∷ mask ≔ 102 ∷ and ≔ 1 ∷ high ≔ 1 ∷ asked ≔ 1 ∷ live ≔ 1 ∷ waiting ≔ 1 ∷ service ≔ 1 ∷ levels ≔ 165 ∷ driven ≔ 255 ∷ []) ∷
    every 1 (mode ≔ 3 ∷ ready ≔ 1 ∷ out ≔ 33 ∷ input ≔ 77 ∷ lines ≔ 40 ∷ vector ≔ 34 ∷ select ≔ 150 ∷ mask ≔ 105 ∷ and ≔ 1 ∷ high ≔ 1 ∷ asked ≔ 1 ∷ live ≔ 1 ∷ waiting ≔ 1 ∷ service ≔ 1 ∷ levels ≔ 33 ∷ driven ≔ 105 ∷ []) ∷ [])

-- F18: an acknowledge that nobody answers
abbrev pub f18 : Row
f18 =
    session "F18" 1
    (after f16 (acknowledge gives answer 3 0 255 0 ∷ []))
    (every 0 (mode ≔ 2 ∷ ready ≔ 1 ∷ out ≔ 165 ∷ input ≔ 85 ∷ lines ≔ 170 ∷ strobe ≔ 0 ∷ vector ≔ 16 ∷ select ≔ 90 ∷ mask ≔ 102 ∷ and ≔ 1 ∷ high ≔ 1 ∷ asked ≔ 1 ∷ live ≔ 1 ∷ waiting ≔ 1 ∷ service ≔ 1 ∷ levels ≔ 165 ∷ driven ≔ 255 ∷ []) ∷
    every 1 (mode ≔ 3 ∷ ready ≔ 1 ∷ out ≔ 33 ∷ input ≔ 77 ∷ lines ≔ 40 ∷ vector ≔ 34 ∷ select ≔ 150 ∷ mask ≔ 105 ∷ and ≔ 1 ∷ high ≔ 1 ∷ asked ≔ 1 ∷ live ≔ 1 ∷ waiting ≔ 1 ∷ service ≔ 1 ∷ levels ≔ 33 ∷ driven ≔ 105 ∷ []) ∷ [])

-- F19: vector words: the vectors alone
abbrev pub f19 : Row
f19 =
    session "F19" 1
    (after f16 (control 0 18 ∷ control 1 36 gives answer 0 1 36 0 ∷ []))
    (every 0 (mode ≔ 2 ∷ ready ≔ 1 ∷ out ≔ 165 ∷ input ≔ 85 ∷ lines ≔ 170 ∷ strobe ≔ 0 ∷ vector ≔ 18 ∷ select ≔ 90 ∷ mask ≔ 102 ∷ and ≔ 1 ∷ high ≔ 1 ∷ asked ≔ 1 ∷ live ≔ 1 ∷ waiting ≔ 1 ∷ service ≔ 1 ∷ levels ≔ 165 ∷ driven ≔ 255 ∷ []) ∷
    every 1 (mode ≔ 3 ∷ ready ≔ 1 ∷ out ≔ 33 ∷ input ≔ 77 ∷ lines ≔ 40 ∷ vector ≔ 36 ∷ select ≔ 150 ∷ mask ≔ 105 ∷ and ≔ 1 ∷ high ≔ 1 ∷ asked ≔ 1 ∷ live ≔ 1 ∷ waiting ≔ 1 ∷ service ≔ 1 ∷ levels ≔ 33 ∷ driven ≔ 105 ∷ []) ∷ [])

-- F20: mode words: A's Ready falls, and B's mode changes and its Ready stays
abbrev pub f20 : Row
f20 =
    session "F20" 1
    (after f16 (control 0 143 ∷ control 1 79 gives answer 0 1 79 0 ∷ []))
    (every 0 (mode ≔ 2 ∷ out ≔ 165 ∷ input ≔ 85 ∷ lines ≔ 170 ∷ strobe ≔ 0 ∷ vector ≔ 16 ∷ select ≔ 90 ∷ mask ≔ 102 ∷ and ≔ 1 ∷ high ≔ 1 ∷ asked ≔ 1 ∷ live ≔ 1 ∷ waiting ≔ 1 ∷ service ≔ 1 ∷ levels ≔ 165 ∷ driven ≔ 255 ∷ []) ∷
    every 1 (ready ≔ 1 ∷ out ≔ 33 ∷ input ≔ 77 ∷ lines ≔ 40 ∷ vector ≔ 34 ∷ select ≔ 150 ∷ mask ≔ 105 ∷ and ≔ 1 ∷ high ≔ 1 ∷ asked ≔ 1 ∷ live ≔ 1 ∷ waiting ≔ 1 ∷ service ≔ 1 ∷ []) ∷ [])

-- F21: a mode 3 word and a select word to B: its select register
abbrev pub f21 : Row
f21 =
    session "F21" 1
    (after f16 (control 1 207 ∷ control 1 240 gives answer 0 1 240 0 ∷ []))
    (every 0 (mode ≔ 2 ∷ ready ≔ 1 ∷ out ≔ 165 ∷ input ≔ 85 ∷ lines ≔ 170 ∷ strobe ≔ 0 ∷ vector ≔ 16 ∷ select ≔ 90 ∷ mask ≔ 102 ∷ and ≔ 1 ∷ high ≔ 1 ∷ asked ≔ 1 ∷ live ≔ 1 ∷ waiting ≔ 1 ∷ service ≔ 1 ∷ levels ≔ 165 ∷ driven ≔ 255 ∷ []) ∷
    every 1 (mode ≔ 3 ∷ ready ≔ 1 ∷ out ≔ 33 ∷ input ≔ 77 ∷ lines ≔ 40 ∷ vector ≔ 34 ∷ select ≔ 240 ∷ mask ≔ 105 ∷ and ≔ 1 ∷ high ≔ 1 ∷ asked ≔ 1 ∷ live ≔ 1 ∷ waiting ≔ 1 ∷ service ≔ 1 ∷ levels ≔ 1 ∷ driven ≔ 15 ∷ []) ∷ [])

-- F22: interrupt control words that say what is so already
abbrev pub f22 : Row
f22 =
    session "F22" 1
    (after f16 (control 0 231 ∷ control 1 231 gives answer 0 1 231 0 ∷ []))
    (every 0 (mode ≔ 2 ∷ ready ≔ 1 ∷ out ≔ 165 ∷ input ≔ 85 ∷ lines ≔ 170 ∷ strobe ≔ 0 ∷ vector ≔ 16 ∷ select ≔ 90 ∷ mask ≔ 102 ∷ and ≔ 1 ∷ high ≔ 1 ∷ asked ≔ 1 ∷ live ≔ 1 ∷ waiting ≔ 1 ∷ service ≔ 1 ∷ levels ≔ 165 ∷ driven ≔ 255 ∷ []) ∷
    every 1 (mode ≔ 3 ∷ ready ≔ 1 ∷ out ≔ 33 ∷ input ≔ 77 ∷ lines ≔ 40 ∷ vector ≔ 34 ∷ select ≔ 150 ∷ mask ≔ 105 ∷ and ≔ 1 ∷ high ≔ 1 ∷ asked ≔ 1 ∷ live ≔ 1 ∷ waiting ≔ 1 ∷ service ≔ 1 ∷ levels ≔ 33 ∷ driven ≔ 105 ∷ []) ∷ [])

-- F23: interrupt control words with bit 4: no longer waiting, not live, mask awaited
abbrev pub f23 : Row
f23 =
    session "F23" 1
    (after f16 (control 0 247 ∷ control 1 247 gives answer 0 1 247 0 ∷ []))
    (every 0 (mode ≔ 2 ∷ ready ≔ 1 ∷ out ≔ 165 ∷ input ≔ 85 ∷ lines ≔ 170 ∷ strobe ≔ 0 ∷ vector ≔ 16 ∷ select ≔ 90 ∷ mask ≔ 102 ∷ and ≔ 1 ∷ high ≔ 1 ∷ asked ≔ 1 ∷ service ≔ 1 ∷ awaiting ≔ 2 ∷ levels ≔ 165 ∷ driven ≔ 255 ∷ []) ∷
    every 1 (mode ≔ 3 ∷ ready ≔ 1 ∷ out ≔ 33 ∷ input ≔ 77 ∷ lines ≔ 40 ∷ vector ≔ 34 ∷ select ≔ 150 ∷ mask ≔ 105 ∷ and ≔ 1 ∷ high ≔ 1 ∷ asked ≔ 1 ∷ service ≔ 1 ∷ awaiting ≔ 2 ∷ levels ≔ 33 ∷ driven ≔ 105 ∷ []) ∷ [])

-- F24: and masks: the masks too
abbrev pub f24 : Row
f24 =
    session "F24" 1
    (after f16 (control 0 247 ∷ control 0 60 ∷ control 1 247 ∷ control 1 60 gives answer 0 1 60 0 ∷ []))
    (every 0 (mode ≔ 2 ∷ ready ≔ 1 ∷ out ≔ 165 ∷ input ≔ 85 ∷ lines ≔ 170 ∷ strobe ≔ 0 ∷ vector ≔ 16 ∷ select ≔ 90 ∷ mask ≔ 60 ∷ and ≔ 1 ∷ high ≔ 1 ∷ asked ≔ 1 ∷ service ≔ 1 ∷ levels ≔ 165 ∷ driven ≔ 255 ∷ []) ∷
    every 1 (mode ≔ 3 ∷ ready ≔ 1 ∷ out ≔ 33 ∷ input ≔ 77 ∷ lines ≔ 40 ∷ vector ≔ 34 ∷ select ≔ 150 ∷ mask ≔ 60 ∷ and ≔ 1 ∷ high ≔ 1 ∷ asked ≔ 1 ∷ service ≔ 1 ∷ levels ≔ 33 ∷ driven ≔ 105 ∷ []) ∷ [])

-- F25: enable words that say what is so already
abbrev pub f25 : Row
f25 =
    session "F25" 1
    (after f16 (control 0 131 ∷ control 1 131 gives answer 0 1 131 0 ∷ []))
    (every 0 (mode ≔ 2 ∷ ready ≔ 1 ∷ out ≔ 165 ∷ input ≔ 85 ∷ lines ≔ 170 ∷ strobe ≔ 0 ∷ vector ≔ 16 ∷ select ≔ 90 ∷ mask ≔ 102 ∷ and ≔ 1 ∷ high ≔ 1 ∷ asked ≔ 1 ∷ live ≔ 1 ∷ waiting ≔ 1 ∷ service ≔ 1 ∷ levels ≔ 165 ∷ driven ≔ 255 ∷ []) ∷
    every 1 (mode ≔ 3 ∷ ready ≔ 1 ∷ out ≔ 33 ∷ input ≔ 77 ∷ lines ≔ 40 ∷ vector ≔ 34 ∷ select ≔ 150 ∷ mask ≔ 105 ∷ and ≔ 1 ∷ high ≔ 1 ∷ asked ≔ 1 ∷ live ≔ 1 ∷ waiting ≔ 1 ∷ service ≔ 1 ∷ levels ≔ 33 ∷ driven ≔ 105 ∷ []) ∷ [])

-- F26: writes: the output registers
abbrev pub f26 : Row
f26 =
    session "F26" 1
    (after f16 (write 0 66 ∷ write 1 66 gives answer 0 1 66 0 ∷ []))
    (every 0 (mode ≔ 2 ∷ ready ≔ 1 ∷ out ≔ 66 ∷ input ≔ 85 ∷ lines ≔ 170 ∷ strobe ≔ 0 ∷ vector ≔ 16 ∷ select ≔ 90 ∷ mask ≔ 102 ∷ and ≔ 1 ∷ high ≔ 1 ∷ asked ≔ 1 ∷ live ≔ 1 ∷ waiting ≔ 1 ∷ service ≔ 1 ∷ levels ≔ 66 ∷ driven ≔ 255 ∷ []) ∷
    every 1 (mode ≔ 3 ∷ ready ≔ 1 ∷ out ≔ 66 ∷ input ≔ 77 ∷ lines ≔ 40 ∷ vector ≔ 34 ∷ select ≔ 150 ∷ mask ≔ 105 ∷ and ≔ 1 ∷ high ≔ 1 ∷ asked ≔ 1 ∷ live ≔ 1 ∷ waiting ≔ 1 ∷ service ≔ 1 ∷ levels ≔ 64 ∷ driven ≔ 105 ∷ []) ∷ [])

-- F27: reads: nothing, since both Readys are high
abbrev pub f27 : Row
f27 =
    session "F27" 1
    (after f16 (read 0 ∷ read 1 gives answer 1 1 33 0 ∷ []))
    (every 0 (mode ≔ 2 ∷ ready ≔ 1 ∷ out ≔ 165 ∷ input ≔ 85 ∷ lines ≔ 170 ∷ strobe ≔ 0 ∷ vector ≔ 16 ∷ select ≔ 90 ∷ mask ≔ 102 ∷ and ≔ 1 ∷ high ≔ 1 ∷ asked ≔ 1 ∷ live ≔ 1 ∷ waiting ≔ 1 ∷ service ≔ 1 ∷ levels ≔ 165 ∷ driven ≔ 255 ∷ []) ∷
    every 1 (mode ≔ 3 ∷ ready ≔ 1 ∷ out ≔ 33 ∷ input ≔ 77 ∷ lines ≔ 40 ∷ vector ≔ 34 ∷ select ≔ 150 ∷ mask ≔ 105 ∷ and ≔ 1 ∷ high ≔ 1 ∷ asked ≔ 1 ∷ live ≔ 1 ∷ waiting ≔ 1 ∷ service ≔ 1 ∷ levels ≔ 33 ∷ driven ≔ 105 ∷ []) ∷ [])

-- F28: A's strobe rises and B's falls: A's Ready falls, A drives no more, A's register follows A's lines
abbrev pub f28 : Row
f28 =
    session "F28" 1
    (after f16 (strobe_to 0 1 ∷ strobe_to 1 0 gives answer 0 1 0 0 ∷ []))
    (every 0 (mode ≔ 2 ∷ out ≔ 165 ∷ input ≔ 170 ∷ lines ≔ 170 ∷ vector ≔ 16 ∷ select ≔ 90 ∷ mask ≔ 102 ∷ and ≔ 1 ∷ high ≔ 1 ∷ asked ≔ 1 ∷ live ≔ 1 ∷ waiting ≔ 1 ∷ service ≔ 1 ∷ []) ∷
    every 1 (mode ≔ 3 ∷ ready ≔ 1 ∷ out ≔ 33 ∷ input ≔ 77 ∷ lines ≔ 40 ∷ strobe ≔ 0 ∷ vector ≔ 34 ∷ select ≔ 150 ∷ mask ≔ 105 ∷ and ≔ 1 ∷ high ≔ 1 ∷ asked ≔ 1 ∷ live ≔ 1 ∷ waiting ≔ 1 ∷ service ≔ 1 ∷ levels ≔ 33 ∷ driven ≔ 105 ∷ []) ∷ [])

-- F29: outside levels: the levels
abbrev pub f29 : Row
f29 =
    session "F29" 1
    (after f16 (lines_to 0 15 ∷ lines_to 1 15 gives answer 0 1 15 0 ∷ []))
    (every 0 (mode ≔ 2 ∷ ready ≔ 1 ∷ out ≔ 165 ∷ input ≔ 85 ∷ lines ≔ 15 ∷ strobe ≔ 0 ∷ vector ≔ 16 ∷ select ≔ 90 ∷ mask ≔ 102 ∷ and ≔ 1 ∷ high ≔ 1 ∷ asked ≔ 1 ∷ live ≔ 1 ∷ waiting ≔ 1 ∷ service ≔ 1 ∷ levels ≔ 165 ∷ driven ≔ 255 ∷ []) ∷
    every 1 (mode ≔ 3 ∷ ready ≔ 1 ∷ out ≔ 33 ∷ input ≔ 77 ∷ lines ≔ 15 ∷ vector ≔ 34 ∷ select ≔ 150 ∷ mask ≔ 105 ∷ and ≔ 1 ∷ high ≔ 1 ∷ asked ≔ 1 ∷ live ≔ 1 ∷ waiting ≔ 1 ∷ service ≔ 1 ∷ levels ≔ 33 ∷ driven ≔ 105 ∷ []) ∷ [])

-- F30: A leaves mode 2: both Readys fall, and A's register follows
abbrev pub f30 : Row
f30 =
    session "F30" 1
    (after f16 (control 0 79 gives answer 0 0 79 0 ∷ []))
    (every 0 (out ≔ 165 ∷ input ≔ 170 ∷ lines ≔ 170 ∷ strobe ≔ 0 ∷ vector ≔ 16 ∷ select ≔ 90 ∷ mask ≔ 102 ∷ and ≔ 1 ∷ high ≔ 1 ∷ asked ≔ 1 ∷ live ≔ 1 ∷ waiting ≔ 1 ∷ service ≔ 1 ∷ []) ∷
    every 1 (mode ≔ 3 ∷ out ≔ 33 ∷ input ≔ 77 ∷ lines ≔ 40 ∷ vector ≔ 34 ∷ select ≔ 150 ∷ mask ≔ 105 ∷ and ≔ 1 ∷ high ≔ 1 ∷ asked ≔ 1 ∷ live ≔ 1 ∷ waiting ≔ 1 ∷ service ≔ 1 ∷ levels ≔ 33 ∷ driven ≔ 105 ∷ []) ∷ [])

-- F31: a reset
abbrev pub f31 : Row
f31 =
    session "F31" 1
    (after f16 (reset gives answer 0 0 0 0 ∷ []))
    (every 0 (input ≔ 170 ∷ lines ≔ 170 ∷ strobe ≔ 0 ∷ vector ≔ 16 ∷ select ≔ 90 ∷ and ≔ 1 ∷ high ≔ 1 ∷ []) ∷
    every 1 (input ≔ 77 ∷ lines ≔ 40 ∷ vector ≔ 34 ∷ select ≔ 150 ∷ and ≔ 1 ∷ high ≔ 1 ∷ []) ∷ [])

-- A1: A in mode 2, its strobe low: a read still gives the input register
abbrev pub a1 : Row
a1 =
    session "A1" 1
    (control 0 143 ∷ lines_to 0 85 ∷ strobe_to 1 0 ∷ strobe_to 1 1 ∷ write 0 170 ∷ strobe_to 0 0 ∷ read 0 gives answer 1 0 85 0 ∷ [])
    ([])

-- A2: an output line takes no part in the match, neither for OR nor against AND
abbrev pub a2_1 : Row
a2_1 =
    session "A2.1" 1
    (control 0 207 ∷ control 0 254 ∷ control 0 183 ∷ control 0 254 ∷ fetch 0x00 ∷ write 0 1 ∷ lines_to 0 1 gives answer 0 0 1 0 ∷ [])
    (some 0 (waiting ≔ 0 ∷ []) ∷ [])

abbrev pub a2_2 : Row
a2_2 =
    session "A2.2" 1
    (control 0 207 ∷ control 0 254 ∷ control 0 247 ∷ control 0 252 ∷ lines_to 0 2 ∷ [])
    (some 0 (matched ≔ 1 ∷ waiting ≔ 1 ∷ []) ∷ [])

-- A3: a level that goes on matching after RETI asks no second time
abbrev pub a3 : Row
a3 =
    session "A3" 1
    (control 0 207 ∷ control 0 255 ∷ control 0 183 ∷ control 0 254 ∷ fetch 0x00 ∷ lines_to 0 1 ∷ acknowledge ∷ fetch 0xED ∷
    fetch 0x4D gives answer 0 0 77 0 ∷ [])
    (some 0 (matched ≔ 1 ∷ []) ∷ [])

-- A4: a match that comes and goes during service is remembered
abbrev pub a4 : Row
a4 =
    session "A4" 1
    (control 0 207 ∷ control 0 255 ∷ control 0 183 ∷ control 0 254 ∷ fetch 0x00 ∷ lines_to 0 1 ∷ acknowledge ∷ lines_to 0 0 ∷
    lines_to 0 1 ∷ lines_to 0 0 ∷ fetch 0xED ∷ fetch 0x4D gives answer 0 0 77 1 ∷ [])
    (some 0 (waiting ≔ 1 ∷ []) ∷ [])

-- A5: a match that goes away before the acknowledge still waits
abbrev pub a5 : Row
a5 =
    session "A5" 1
    (control 0 207 ∷ control 0 255 ∷ control 0 183 ∷ control 0 254 ∷ fetch 0x00 ∷ lines_to 0 1 ∷ lines_to 0 0 ∷
    acknowledge gives answer 2 0 0 0 ∷ [])
    ([])

-- A6: a mode 3 read leaves the input register alone
abbrev pub a6 : Row
a6 =
    session "A6" 1
    (control 0 207 ∷ control 0 255 ∷ lines_to 0 85 ∷ read 0 ∷ control 0 79 ∷ read 0 gives answer 1 0 0 0 ∷ [])
    ([])

-- A7: no match at B while A is in mode 2, whatever B's strobe
abbrev pub a7 : Row
a7 =
    session "A7" 1
    (control 1 207 ∷ control 1 255 ∷ control 1 183 ∷ control 1 254 ∷ control 0 143 ∷ fetch 0x00 ∷ strobe_to 1 0 ∷
    lines_to 1 1 gives answer 0 1 1 0 ∷ [])
    (some 1 (matched ≔ 0 ∷ waiting ≔ 0 ∷ []) ∷ [])

-- A8: data of a mode 3 B while A is in mode 2
abbrev pub a8 : Row
a8 =
    session "A8" 1
    (control 0 143 ∷ control 1 207 ∷ control 1 240 ∷ lines_to 1 170 ∷ write 1 85 ∷ read 1 gives answer 1 1 165 0 ∷ [])
    (some 1 (ready ≔ 0 ∷ []) ∷ [])

-- A9: bit 4 of the interrupt control word awaits a mask in every mode
abbrev pub a9_1 : Row
a9_1 =
    session "A9.1" 1
    (control 0 15 ∷ control 0 23 ∷ control 0 143 gives answer 0 0 143 0 ∷ [])
    (some 0 (mode ≔ 0 ∷ mask ≔ 143 ∷ []) ∷ [])

abbrev pub a9_2 : Row
a9_2 =
    session "A9.2" 1
    (control 1 23 ∷ control 1 143 gives answer 0 1 143 0 ∷ [])
    (some 1 (mask ≔ 143 ∷ []) ∷ [])

-- A10: what a reset keeps and what it clears
abbrev pub a10 : Row
a10 =
    session "A10" 1
    (control 0 207 ∷ control 0 240 ∷ control 0 103 ∷ write 0 9 ∷ reset ∷ [])
    (some 0 (select ≔ 240 ∷ and ≔ 1 ∷ high ≔ 1 ∷ out ≔ 0 ∷ mask ≔ 255 ∷ []) ∷ [])

-- A11: bit 6 is AND, bit 5 is High
abbrev pub a11 : Row
a11 =
    session "A11" 1
    (control 0 71 ∷ [])
    (some 0 (and ≔ 1 ∷ high ≔ 0 ∷ []) ∷ [])

-- A12: an acknowledge makes no port live
abbrev pub a12 : Row
a12 =
    session "A12" 1
    (control 0 131 ∷ strobe_to 0 0 ∷ strobe_to 0 1 ∷ acknowledge ∷ acknowledge gives answer 3 0 255 0 ∷ [])
    (some 0 (live ≔ 0 ∷ []) ∷ [])

-- A13: a port waits also while it is disabled, and a disable drops nothing
abbrev pub a13_1 : Row
a13_1 =
    session "A13.1" 1
    (strobe_to 0 0 ∷ strobe_to 0 1 ∷ control 0 131 ∷ fetch 0x00 gives answer 0 0 0 1 ∷ [])
    ([])

abbrev pub a13_2 : Row
a13_2 =
    session "A13.2" 1
    (control 0 131 ∷ fetch 0x00 ∷ strobe_to 0 0 ∷ strobe_to 0 1 ∷ control 0 3 gives answer 0 0 3 0 ∷ [])
    (some 0 (waiting ≔ 1 ∷ live ≔ 0 ∷ []) ∷ [])

-- A14: a rise with Ready low counts as any other
abbrev pub a14_1 : Row
a14_1 =
    session "A14.1" 1
    (control 0 15 ∷ control 0 131 ∷ fetch 0x00 ∷ strobe_to 0 0 ∷ strobe_to 0 1 gives answer 0 0 1 1 ∷ [])
    ([])

abbrev pub a14_2 : Row
a14_2 =
    session "A14.2" 1
    (control 0 143 ∷ control 0 131 ∷ fetch 0x00 ∷ strobe_to 0 0 ∷ strobe_to 0 1 gives answer 0 0 1 1 ∷ [])
    ([])

abbrev pub a14_3 : Row
a14_3 =
    session "A14.3" 1
    (control 0 143 ∷ control 1 131 ∷ fetch 0x00 ∷ strobe_to 1 0 ∷ strobe_to 1 1 gives answer 0 1 1 2 ∷ [])
    ([])

-- A15: a fresh board works before its first control word
abbrev pub a15_1 : Row
a15_1 =
    session "A15.1" 1
    (strobe_to 0 0 ∷ strobe_to 0 1 ∷ [])
    (some 0 (waiting ≔ 1 ∷ []) ∷ [])

abbrev pub a15_2 : Row
a15_2 =
    session "A15.2" 1
    (write 0 255 ∷ control 0 15 ∷ [])
    (some 0 (out ≔ 255 ∷ levels ≔ 255 ∷ ready ≔ 0 ∷ []) ∷ [])

-- A16: Ready of a mode 3 B that serves A
abbrev pub a16 : Row
a16 =
    session "A16" 1
    (control 0 143 ∷ control 1 207 ∷ control 1 255 ∷ read 0 ∷ [])
    (some 1 (ready ≔ 1 ∷ []) ∷ [])

-- A18: an interrupt control word without bit 4 keeps the mask
abbrev pub a18_1 : Row
a18_1 =
    session "A18.1" 1
    (control 0 207 ∷ control 0 255 ∷ control 0 167 ∷ fetch 0x00 ∷ lines_to 0 255 gives answer 0 0 255 0 ∷ [])
    (some 0 (waiting ≔ 0 ∷ []) ∷ [])

abbrev pub a18_2 : Row
a18_2 =
    session "A18.2" 1
    (control 0 183 ∷ control 0 0 ∷ fetch 0x00 ∷ lines_to 0 1 ∷ control 0 207 ∷ control 0 255 gives answer 0 0 255 1 ∷ [])
    ([])

-- B1: A enters mode 2 while B's strobe is low
abbrev pub b1_1 : Row
b1_1 =
    session "B1.1" 1
    (lines_to 0 85 ∷ strobe_to 1 0 ∷ control 0 143 ∷ read 0 gives answer 1 0 85 0 ∷ [])
    ([])

abbrev pub b1_2 : Row
b1_2 =
    session "B1.2" 1
    (lines_to 0 85 ∷ strobe_to 1 0 ∷ control 0 143 ∷ strobe_to 1 1 ∷ [])
    (some 1 (waiting ≔ 1 ∷ []) ∷ some 0 (waiting ≔ 0 ∷ input ≔ 85 ∷ []) ∷ [])

-- B2: A enters mode 2 while its own strobe is low
abbrev pub b2_1 : Row
b2_1 =
    session "B2.1" 1
    (write 0 9 ∷ strobe_to 0 0 ∷ control 0 143 ∷ [])
    (some 0 (levels ≔ 9 ∷ driven ≔ 255 ∷ []) ∷ [])

abbrev pub b2_2 : Row
b2_2 =
    session "B2.2" 1
    (strobe_to 0 0 ∷ control 0 143 ∷ strobe_to 0 1 ∷ [])
    (some 0 (waiting ≔ 1 ∷ []) ∷ [])

-- B3: A leaves mode 2 for mode 1 with a strobe low
abbrev pub b3_1 : Row
b3_1 =
    session "B3.1" 1
    (control 0 143 ∷ strobe_to 0 0 ∷ lines_to 0 85 ∷ control 0 79 ∷ [])
    (some 0 (input ≔ 85 ∷ []) ∷ [])

abbrev pub b3_2 : Row
b3_2 =
    session "B3.2" 1
    (control 0 143 ∷ strobe_to 1 0 ∷ lines_to 0 85 ∷ control 0 79 ∷ lines_to 0 3 ∷ [])
    (some 0 (input ≔ 85 ∷ []) ∷ [])

-- B4: the mode at the rise decides, and the mode word is no edge
abbrev pub b4_1 : Row
b4_1 =
    session "B4.1" 1
    (control 0 15 ∷ strobe_to 0 0 ∷ lines_to 0 85 ∷ control 0 79 ∷ [])
    (some 0 (input ≔ 85 ∷ waiting ≔ 0 ∷ []) ∷ [])

abbrev pub b4_2 : Row
b4_2 =
    session "B4.2" 1
    (control 0 207 ∷ control 0 255 ∷ strobe_to 0 0 ∷ control 0 15 ∷ strobe_to 0 1 ∷ [])
    (some 0 (waiting ≔ 1 ∷ []) ∷ [])

abbrev pub b4_3 : Row
b4_3 =
    session "B4.3" 1
    (control 0 15 ∷ strobe_to 0 0 ∷ control 0 207 ∷ control 0 255 ∷ strobe_to 0 1 ∷ [])
    (some 0 (waiting ≔ 0 ∷ []) ∷ [])

-- B5: A leaves mode 2 while B's strobe is low
abbrev pub b5_1 : Row
b5_1 =
    session "B5.1" 1
    (control 0 143 ∷ strobe_to 1 0 ∷ lines_to 1 51 ∷ control 0 79 ∷ [])
    (some 1 (input ≔ 51 ∷ []) ∷ [])

abbrev pub b5_2 : Row
b5_2 =
    session "B5.2" 1
    (control 0 143 ∷ strobe_to 1 0 ∷ lines_to 1 51 ∷ control 0 79 ∷ strobe_to 1 1 ∷ [])
    (some 1 (waiting ≔ 1 ∷ []) ∷ [])

abbrev pub b5_3 : Row
b5_3 =
    session "B5.3" 1
    (control 1 207 ∷ control 1 255 ∷ control 0 143 ∷ strobe_to 1 0 ∷ control 0 15 ∷ strobe_to 1 1 ∷ [])
    (some 1 (waiting ≔ 0 ∷ strobe ≔ 1 ∷ []) ∷ [])

-- B6: B's strobe serves A whatever B's mode
abbrev pub b6_1 : Row
b6_1 =
    session "B6.1" 1
    (control 1 207 ∷ control 1 255 ∷ control 0 143 ∷ strobe_to 1 0 ∷ lines_to 0 85 ∷ strobe_to 1 1 ∷ [])
    (some 1 (waiting ≔ 1 ∷ []) ∷ some 0 (input ≔ 85 ∷ []) ∷ [])

abbrev pub b6_2 : Row
b6_2 =
    session "B6.2" 1
    (control 0 143 ∷ control 1 15 ∷ strobe_to 1 0 ∷ strobe_to 1 1 ∷ [])
    (some 1 (waiting ≔ 1 ∷ []) ∷ some 0 (waiting ≔ 0 ∷ []) ∷ [])

-- B7: at the fall of A's strobe only the driven lines change
abbrev pub b7_1 : Row
b7_1 =
    session "B7.1" 1
    (control 0 143 ∷ write 0 1 ∷ strobe_to 0 0 ∷ [])
    (some 0 (ready ≔ 1 ∷ waiting ≔ 0 ∷ driven ≔ 255 ∷ levels ≔ 1 ∷ []) ∷ [])

abbrev pub b7_2 : Row
b7_2 =
    session "B7.2" 1
    (control 0 143 ∷ write 0 1 ∷ [])
    (some 0 (ready ≔ 1 ∷ driven ≔ 0 ∷ levels ≔ 0 ∷ []) ∷ [])

abbrev pub b7_3 : Row
b7_3 =
    session "B7.3" 1
    (control 0 143 ∷ write 0 1 ∷ strobe_to 0 0 ∷ strobe_to 0 1 ∷ [])
    (some 0 (ready ≔ 0 ∷ waiting ≔ 1 ∷ driven ≔ 0 ∷ []) ∷ [])

-- B8: a mode 2 word to an A in mode 2 already leaves B's Ready
abbrev pub b8 : Row
b8 =
    session "B8" 1
    (control 0 143 ∷ read 0 ∷ write 0 1 ∷ control 0 143 ∷ [])
    (some 0 (ready ≔ 0 ∷ []) ∷ some 1 (ready ≔ 1 ∷ []) ∷ [])

-- B9: a mode word to B while A is in mode 2, and A leaving then
abbrev pub b9_1 : Row
b9_1 =
    session "B9.1" 1
    (control 0 143 ∷ read 0 ∷ control 1 15 ∷ [])
    (some 1 (ready ≔ 1 ∷ []) ∷ [])

abbrev pub b9_2 : Row
b9_2 =
    session "B9.2" 1
    (control 0 143 ∷ read 0 ∷ control 1 15 ∷ control 0 15 ∷ [])
    (some 1 (ready ≔ 0 ∷ []) ∷ [])

-- B10: B goes on waiting when A leaves mode 2 and when B gets a mode
abbrev pub b10_1 : Row
b10_1 =
    session "B10.1" 1
    (control 0 143 ∷ control 1 131 ∷ fetch 0x00 ∷ strobe_to 1 0 ∷ strobe_to 1 1 ∷ control 0 15 gives answer 0 0 15 2 ∷ [])
    ([])

abbrev pub b10_2 : Row
b10_2 =
    session "B10.2" 1
    (control 0 143 ∷ control 1 131 ∷ fetch 0x00 ∷ strobe_to 1 0 ∷ strobe_to 1 1 ∷ control 0 15 ∷ control 1 207 gives answer 0 1 207 2 ∷ [])
    ([])

-- B11: B's match comes back when A leaves mode 2
abbrev pub b11 : Row
b11 =
    session "B11" 1
    (control 1 207 ∷ control 1 255 ∷ control 1 183 ∷ control 1 254 ∷ fetch 0x00 ∷ lines_to 1 1 ∷ acknowledge ∷ fetch 0xED ∷
    fetch 0x4D ∷ control 0 143 ∷ control 0 79 gives answer 0 0 79 2 ∷ [])
    (some 1 (waiting ≔ 1 ∷ []) ∷ [])

-- B12: a match comes back when the awaited word has arrived
abbrev pub b12_1 : Row
b12_1 =
    session "B12.1" 1
    (control 0 207 ∷ control 0 255 ∷ control 0 183 ∷ control 0 254 ∷ fetch 0x00 ∷ lines_to 0 1 ∷ acknowledge ∷ fetch 0xED ∷
    fetch 0x4D ∷ control 0 207 ∷ control 0 255 gives answer 0 0 255 1 ∷ [])
    ([])

abbrev pub b12_2 : Row
b12_2 =
    session "B12.2" 1
    (control 0 207 ∷ control 0 255 ∷ control 0 183 ∷ control 0 254 ∷ fetch 0x00 ∷ lines_to 0 1 ∷ control 0 183 ∷
    control 0 254 gives answer 0 0 254 0 ∷ [])
    (some 0 (waiting ≔ 1 ∷ []) ∷ [])

abbrev pub b12_3 : Row
b12_3 =
    session "B12.3" 1
    (control 0 207 ∷ control 0 255 ∷ control 0 183 ∷ control 0 254 ∷ fetch 0x00 ∷ lines_to 0 1 ∷ control 0 183 ∷ control 0 254 ∷
    fetch 0x00 gives answer 0 0 0 1 ∷ [])
    ([])

-- B13: a control word can make a match
abbrev pub b13 : Row
b13 =
    session "B13" 1
    (control 0 207 ∷ control 0 255 ∷ control 0 183 ∷ control 0 254 ∷ fetch 0x00 ∷ control 0 135 gives answer 0 0 135 1 ∷ [])
    ([])

-- B14: awaiting select keeps no port from becoming live
abbrev pub b14_1 : Row
b14_1 =
    session "B14.1" 1
    (control 0 131 ∷ control 0 207 ∷ fetch 0x00 ∷ [])
    (some 0 (live ≔ 1 ∷ awaiting ≔ 1 ∷ []) ∷ [])

abbrev pub b14_2 : Row
b14_2 =
    session "B14.2" 1
    (control 0 131 ∷ strobe_to 0 0 ∷ strobe_to 0 1 ∷ control 0 207 ∷ fetch 0x00 gives answer 0 0 0 1 ∷ [])
    ([])

-- B15: enabling with and without an awaited mask
abbrev pub b15_1 : Row
b15_1 =
    session "B15.1" 1
    (control 0 131 ∷ fetch 0x00 ∷ control 0 151 ∷ fetch 0x00 ∷ [])
    (some 0 (live ≔ 0 ∷ asked ≔ 1 ∷ awaiting ≔ 2 ∷ []) ∷ [])

abbrev pub b15_2 : Row
b15_2 =
    session "B15.2" 1
    (control 0 131 ∷ fetch 0x00 ∷ control 0 151 ∷ control 0 255 ∷ [])
    (some 0 (live ≔ 0 ∷ []) ∷ [])

abbrev pub b15_3 : Row
b15_3 =
    session "B15.3" 1
    (control 0 131 ∷ fetch 0x00 ∷ control 0 151 ∷ control 0 255 ∷ fetch 0x00 ∷ [])
    (some 0 (live ≔ 1 ∷ []) ∷ [])

abbrev pub b15_4 : Row
b15_4 =
    session "B15.4" 1
    (control 0 131 ∷ fetch 0x00 ∷ control 0 135 ∷ [])
    (some 0 (live ≔ 1 ∷ []) ∷ [])

abbrev pub b15_5 : Row
b15_5 =
    session "B15.5" 1
    (strobe_to 0 0 ∷ strobe_to 0 1 ∷ control 0 23 ∷ [])
    (some 0 (waiting ≔ 0 ∷ awaiting ≔ 2 ∷ asked ≔ 0 ∷ []) ∷ [])

-- B16: mode 3 goes by the old select register until the new one arrives
abbrev pub b16_1 : Row
b16_1 =
    session "B16.1" 1
    (write 0 255 ∷ control 0 207 ∷ [])
    (some 0 (levels ≔ 255 ∷ driven ≔ 255 ∷ []) ∷ [])

abbrev pub b16_2 : Row
b16_2 =
    session "B16.2" 1
    (write 0 170 ∷ lines_to 0 85 ∷ control 0 207 ∷ read 0 gives answer 1 0 170 0 ∷ [])
    ([])

-- B17: the outside levels are kept in every mode; only a following register takes them
abbrev pub b17_1 : Row
b17_1 =
    session "B17.1" 1
    (control 0 15 ∷ strobe_to 0 0 ∷ lines_to 0 85 ∷ [])
    (some 0 (lines ≔ 85 ∷ input ≔ 0 ∷ []) ∷ [])

abbrev pub b17_2 : Row
b17_2 =
    session "B17.2" 1
    (lines_to 0 85 ∷ strobe_to 0 0 ∷ [])
    (some 0 (input ≔ 85 ∷ []) ∷ [])

abbrev pub b17_3 : Row
b17_3 =
    session "B17.3" 1
    (control 0 207 ∷ control 0 255 ∷ strobe_to 0 0 ∷ lines_to 0 85 ∷ [])
    (some 0 (input ≔ 0 ∷ []) ∷ [])

-- B18: both strobes low in mode 2: the register takes the outside levels
abbrev pub b18 : Row
b18 =
    session "B18" 1
    (control 0 143 ∷ write 0 170 ∷ lines_to 0 85 ∷ strobe_to 0 0 ∷ strobe_to 1 0 ∷ [])
    (some 0 (input ≔ 85 ∷ levels ≔ 170 ∷ []) ∷ [])

-- B19: A's own strobe does not open A's register in mode 2
abbrev pub b19 : Row
b19 =
    session "B19" 1
    (control 0 143 ∷ strobe_to 0 0 ∷ lines_to 0 85 ∷ [])
    (some 0 (input ≔ 0 ∷ []) ∷ [])

-- B20: B's input register is frozen while A is in mode 2
abbrev pub b20_1 : Row
b20_1 =
    session "B20.1" 1
    (control 0 143 ∷ lines_to 1 51 ∷ strobe_to 1 0 ∷ read 1 gives answer 1 1 0 0 ∷ [])
    (some 1 (ready ≔ 0 ∷ input ≔ 0 ∷ []) ∷ [])

abbrev pub b20_2 : Row
b20_2 =
    session "B20.2" 1
    (strobe_to 1 0 ∷ lines_to 1 51 ∷ control 0 143 ∷ lines_to 1 204 ∷ read 1 gives answer 1 1 51 0 ∷ [])
    ([])

-- B21: a mode 0 B drives its lines while A is in mode 2
abbrev pub b21 : Row
b21 =
    session "B21" 1
    (control 0 143 ∷ control 1 15 ∷ write 1 85 ∷ [])
    (some 1 (levels ≔ 85 ∷ driven ≔ 255 ∷ ready ≔ 0 ∷ []) ∷ [])

-- B22: a data access raises Ready also with the strobe low
abbrev pub b22_1 : Row
b22_1 =
    session "B22.1" 1
    (strobe_to 0 0 ∷ read 0 ∷ [])
    (some 0 (ready ≔ 1 ∷ []) ∷ [])

abbrev pub b22_2 : Row
b22_2 =
    session "B22.2" 1
    (control 0 143 ∷ strobe_to 0 0 ∷ write 0 1 ∷ [])
    (some 0 (ready ≔ 1 ∷ []) ∷ [])

abbrev pub b22_3 : Row
b22_3 =
    session "B22.3" 1
    (control 0 143 ∷ strobe_to 1 0 ∷ read 0 ∷ [])
    (some 1 (ready ≔ 1 ∷ []) ∷ [])

abbrev pub b22_4 : Row
b22_4 =
    session "B22.4" 1
    (control 0 143 ∷ strobe_to 1 0 ∷ read 0 ∷ strobe_to 1 1 ∷ [])
    (some 1 (ready ≔ 0 ∷ []) ∷ [])

-- B23: a repeated mode word lowers Ready and ends no service
abbrev pub b23_1 : Row
b23_1 =
    session "B23.1" 1
    (control 0 15 ∷ write 0 1 ∷ control 0 15 ∷ [])
    (some 0 (ready ≔ 0 ∷ []) ∷ [])

abbrev pub b23_2 : Row
b23_2 =
    session "B23.2" 1
    (control 0 131 ∷ fetch 0x00 ∷ strobe_to 0 0 ∷ strobe_to 0 1 ∷ acknowledge ∷ control 0 15 ∷ [])
    (some 0 (service ≔ 1 ∷ []) ∷ [])

-- B24: reset with a strobe low
abbrev pub b24_1 : Row
b24_1 =
    session "B24.1" 1
    (control 0 15 ∷ strobe_to 0 0 ∷ lines_to 0 85 ∷ reset ∷ [])
    (some 0 (input ≔ 85 ∷ strobe ≔ 0 ∷ []) ∷ [])

abbrev pub b24_2 : Row
b24_2 =
    session "B24.2" 1
    (control 0 15 ∷ strobe_to 0 0 ∷ lines_to 0 85 ∷ reset ∷ strobe_to 0 1 ∷ [])
    (some 0 (waiting ≔ 1 ∷ []) ∷ [])

abbrev pub b24_3 : Row
b24_3 =
    session "B24.3" 1
    (control 0 143 ∷ strobe_to 1 0 ∷ lines_to 1 51 ∷ reset ∷ [])
    (some 1 (input ≔ 51 ∷ []) ∷ [])

-- B25: a repeated strobe level is no edge
abbrev pub b25 : Row
b25 =
    session "B25" 1
    (strobe_to 0 1 gives answer 0 0 1 0 ∷ [])
    (some 0 (waiting ≔ 0 ∷ []) ∷ [])

-- B26: a read does not end the waiting
abbrev pub b26 : Row
b26 =
    session "B26" 1
    (control 0 131 ∷ fetch 0x00 ∷ strobe_to 0 0 ∷ strobe_to 0 1 ∷ read 0 gives answer 1 0 0 1 ∷ [])
    ([])

-- B27: no watched input line, no match; all watched lines for AND
abbrev pub b27_1 : Row
b27_1 =
    session "B27.1" 1
    (control 0 207 ∷ control 0 0 ∷ control 0 247 ∷ control 0 0 ∷ lines_to 0 255 ∷ [])
    (some 0 (matched ≔ 0 ∷ []) ∷ [])

abbrev pub b27_2 : Row
b27_2 =
    session "B27.2" 1
    (control 0 207 ∷ control 0 255 ∷ control 0 215 ∷ control 0 255 ∷ lines_to 0 0 ∷ [])
    (some 0 (matched ≔ 0 ∷ []) ∷ [])

abbrev pub b27_3 : Row
b27_3 =
    session "B27.3" 1
    (control 0 207 ∷ control 0 255 ∷ control 0 247 ∷ control 0 252 ∷ lines_to 0 1 ∷ [])
    (some 0 (matched ≔ 0 ∷ []) ∷ [])

abbrev pub b27_4 : Row
b27_4 =
    session "B27.4" 1
    (control 0 207 ∷ control 0 255 ∷ control 0 247 ∷ control 0 252 ∷ lines_to 0 3 ∷ [])
    (some 0 (matched ≔ 1 ∷ []) ∷ [])

-- B28: whose Ready rises in mode 2
abbrev pub b28_1 : Row
b28_1 =
    session "B28.1" 1
    (control 0 143 ∷ read 0 ∷ [])
    (some 0 (ready ≔ 0 ∷ []) ∷ some 1 (ready ≔ 1 ∷ []) ∷ [])

abbrev pub b28_2 : Row
b28_2 =
    session "B28.2" 1
    (control 0 143 ∷ write 0 1 ∷ [])
    (some 0 (ready ≔ 1 ∷ []) ∷ some 1 (ready ≔ 0 ∷ []) ∷ [])

-- B29: the enable word changes only the enable; the control word without bit 4 drops nothing
abbrev pub b29_1 : Row
b29_1 =
    session "B29.1" 1
    (strobe_to 0 0 ∷ strobe_to 0 1 ∷ control 0 243 ∷ [])
    (some 0 (awaiting ≔ 0 ∷ and ≔ 0 ∷ high ≔ 0 ∷ asked ≔ 1 ∷ waiting ≔ 1 ∷ []) ∷ [])

abbrev pub b29_2 : Row
b29_2 =
    session "B29.2" 1
    (strobe_to 0 0 ∷ strobe_to 0 1 ∷ control 0 231 ∷ [])
    (some 0 (awaiting ≔ 0 ∷ and ≔ 1 ∷ high ≔ 1 ∷ asked ≔ 1 ∷ waiting ≔ 1 ∷ []) ∷ [])

-- C1: a port that waits again under service asks after its RETI
abbrev pub c1_1 : Row
c1_1 =
    session "C1.1" 1
    (control 0 131 ∷ fetch 0x00 ∷ strobe_to 0 0 ∷ strobe_to 0 1 ∷ acknowledge ∷ strobe_to 0 0 ∷ strobe_to 0 1 gives answer 0 0 1 0 ∷ [])
    (some 0 (waiting ≔ 1 ∷ service ≔ 1 ∷ []) ∷ [])

abbrev pub c1_2 : Row
c1_2 =
    session "C1.2" 1
    (control 0 131 ∷ fetch 0x00 ∷ strobe_to 0 0 ∷ strobe_to 0 1 ∷ acknowledge ∷ strobe_to 0 0 ∷ strobe_to 0 1 ∷ fetch 0xED ∷
    fetch 0x4D gives answer 0 0 77 1 ∷ [])
    ([])

-- C2: a disable does not end the service
abbrev pub c2 : Row
c2 =
    session "C2" 1
    (control 0 131 ∷ control 1 131 ∷ fetch 0x00 ∷ strobe_to 0 0 ∷ strobe_to 0 1 ∷ acknowledge ∷ control 0 23 ∷ strobe_to 1 0 ∷
    strobe_to 1 1 gives answer 0 1 1 0 ∷ [])
    (some 0 (service ≔ 1 ∷ []) ∷ [])

-- C3: waiting without being live keeps nobody back
abbrev pub c3 : Row
c3 =
    session "C3" 1
    (control 1 131 ∷ fetch 0x00 ∷ strobe_to 0 0 ∷ strobe_to 0 1 ∷ strobe_to 1 0 ∷ strobe_to 1 1 gives answer 0 1 1 2 ∷ [])
    ([])

-- C4: the request byte of a refusal
abbrev pub c4_1 : Row
c4_1 =
    session "C4.1" 1
    (control 0 131 ∷ fetch 0x00 ∷ strobe_to 0 0 ∷ strobe_to 0 1 ∷ bytes (9 ∷ 7 ∷ 7 ∷ 7 ∷ []) gives answer 16 7 7 1 ∷ [])
    ([])

abbrev pub c4_2 : Row
c4_2 =
    refused "C4.2" 0
    (bytes (9 ∷ 9 ∷ 9 ∷ 9 ∷ []) gives answer 35 9 9 0 ∷ [])
    ([])

abbrev pub c4_3 : Row
c4_3 =
    session "C4.3" 2
    (control 3 131 ∷ fetch 0x00 ∷ strobe_to 3 0 ∷ strobe_to 3 1 ∷ control 3 143 gives answer 20 3 143 4 ∷ [])
    ([])

-- C5: a refused event does nothing, not even to the decoder
abbrev pub c5_1 : Row
c5_1 =
    session "C5.1" 1
    (control 0 131 ∷ fetch 0x00 ∷ strobe_to 0 0 ∷ strobe_to 0 1 ∷ acknowledge ∷ fetch 0xED ∷ bytes (1 ∷ 0 ∷ 77 ∷ 1 ∷ []) ∷ fetch 0x4D ∷ [])
    (some 0 (service ≔ 0 ∷ []) ∷ [])

abbrev pub c5_2 : Row
c5_2 =
    session "C5.2" 1
    (control 0 131 ∷ fetch 0x00 ∷ strobe_to 0 0 ∷ strobe_to 0 1 ∷ acknowledge ∷ fetch 0xED ∷ bytes (2 ∷ 0 ∷ 1 ∷ 0 ∷ []) ∷ fetch 0x4D ∷ [])
    (some 0 (service ≔ 0 ∷ []) ∷ [])

abbrev pub c5_3 : Row
c5_3 =
    session "C5.3" 1
    (control 0 131 ∷ bytes (1 ∷ 0 ∷ 0 ∷ 1 ∷ []) gives answer 18 0 0 0 ∷ [])
    (some 0 (live ≔ 0 ∷ []) ∷ [])

-- C6: what forgets an open ED and what does not
abbrev pub c6_1 : Row
c6_1 =
    session "C6.1" 1
    (control 0 131 ∷ fetch 0x00 ∷ strobe_to 0 0 ∷ strobe_to 0 1 ∷ acknowledge ∷ fetch 0xED ∷ acknowledge ∷ fetch 0x4D ∷ [])
    (some 0 (service ≔ 1 ∷ []) ∷ [])

abbrev pub c6_2 : Row
c6_2 =
    session "C6.2" 1
    (control 0 131 ∷ fetch 0x00 ∷ strobe_to 0 0 ∷ strobe_to 0 1 ∷ acknowledge ∷ fetch 0xED ∷ control 0 131 ∷ read 0 ∷ fetch 0x4D ∷ [])
    (some 0 (service ≔ 0 ∷ []) ∷ [])

-- C7: an awaited byte may have any value
abbrev pub c7_1 : Row
c7_1 =
    session "C7.1" 1
    (control 0 207 ∷ bytes (3 ∷ 0 ∷ 255 ∷ 1 ∷ []) gives answer 18 0 255 0 ∷ [])
    (some 0 (awaiting ≔ 1 ∷ []) ∷ [])

abbrev pub c7_2 : Row
c7_2 =
    session "C7.2" 1
    (control 0 207 ∷ control 0 9 gives answer 0 0 9 0 ∷ [])
    (some 0 (select ≔ 9 ∷ []) ∷ [])

-- C8: the order of the refusals
abbrev pub c8_1 : Row
c8_1 =
    session "C8.1" 1
    (bytes (9 ∷ 9 ∷ 9 ∷ 9 ∷ []) gives answer 16 9 9 0 ∷ [])
    ([])

abbrev pub c8_2 : Row
c8_2 =
    session "C8.2" 1
    (bytes (2 ∷ 1 ∷ 5 ∷ 5 ∷ []) gives answer 17 1 5 0 ∷ [])
    ([])

abbrev pub c8_3 : Row
c8_3 =
    session "C8.3" 1
    (bytes (3 ∷ 1 ∷ 143 ∷ 1 ∷ []) gives answer 18 1 143 0 ∷ [])
    ([])

abbrev pub c8_4 : Row
c8_4 =
    session "C8.4" 1
    (control 1 175 gives answer 20 1 175 0 ∷ [])
    ([])

-- C11: RETI with nobody under service, and a 4D that also makes a port live
abbrev pub c11_1 : Row
c11_1 =
    session "C11.1" 1
    (fetch 0xED ∷ fetch 0x4D gives answer 0 0 77 0 ∷ [])
    ([])

abbrev pub c11_2 : Row
c11_2 =
    session "C11.2" 1
    (control 1 131 ∷ fetch 0x00 ∷ strobe_to 1 0 ∷ strobe_to 1 1 ∷ acknowledge ∷ fetch 0xED ∷ control 0 131 ∷ strobe_to 0 0 ∷
    strobe_to 0 1 ∷ fetch 0x4D gives answer 0 0 77 1 ∷ [])
    (some 0 (live ≔ 1 ∷ []) ∷ some 1 (service ≔ 0 ∷ []) ∷ [])

-- D6: of two asking places the nearer one is named, and its service silences the other
abbrev pub d6_1 : Row
d6_1 =
    session "D6.1" 4
    (control 5 131 ∷ control 6 131 ∷ fetch 0x00 ∷ strobe_to 6 0 ∷ strobe_to 6 1 ∷ strobe_to 5 0 ∷ strobe_to 5 1 gives answer 0 5 1 6 ∷ [])
    ([])

abbrev pub d6_2 : Row
d6_2 =
    session "D6.2" 4
    (control 5 131 ∷ control 6 131 ∷ fetch 0x00 ∷ strobe_to 6 0 ∷ strobe_to 6 1 ∷ strobe_to 5 0 ∷ strobe_to 5 1 ∷
    acknowledge gives answer 2 5 0 0 ∷ [])
    ([])

-- D7: document 02, Ask 2: two places ask and the nearer is named; when it is under service nobody is, and after its
-- RETI the farther one
abbrev pub d7 : Row
d7 =
    session "D7" 4
    (control 5 131 gives answer 0 5 131 0 ∷ control 6 131 gives answer 0 6 131 0 ∷ fetch 0x00 gives answer 0 0 0 0 ∷
    strobe_to 6 0 gives answer 0 6 0 0 ∷ strobe_to 6 1 gives answer 0 6 1 7 ∷ strobe_to 5 0 gives answer 0 5 0 7 ∷
    strobe_to 5 1 gives answer 0 5 1 6 ∷ acknowledge gives answer 2 5 0 0 ∷ fetch 0xED gives answer 0 0 237 0 ∷
    fetch 0x4D gives answer 0 0 77 7 ∷ [])
    (every 5 (asked ≔ 1 ∷ live ≔ 1 ∷ []) ∷ every 6 (asked ≔ 1 ∷ live ≔ 1 ∷ waiting ≔ 1 ∷ []) ∷ [])

-- D8: the refusals of a sound board name the asking place too, and 32 does not; a reset leaves nobody asking
abbrev pub d8 : Row
d8 =
    session "D8" 2
    (control 3 131 gives answer 0 3 131 0 ∷ fetch 0x00 gives answer 0 0 0 0 ∷ strobe_to 3 0 gives answer 0 3 0 0 ∷
    strobe_to 3 1 gives answer 0 3 1 4 ∷ control 3 143 gives answer 20 3 143 4 ∷ control 3 9 gives answer 19 3 9 4 ∷
    strobe_to 0 2 gives answer 18 0 2 4 ∷ lines_to 4 0 gives answer 17 4 0 4 ∷ bytes (8 ∷ 0 ∷ 0 ∷ 0 ∷ []) gives answer 16 0 0 4 ∷
    bytes (1 ∷ 0 ∷ 0 ∷ []) gives answer 32 0 0 0 ∷ reset gives answer 0 0 0 0 ∷ [])
    (every 3 [] ∷ [])

-- D9: the nearest asking place is named also when a farther one has just begun to ask
abbrev pub d9 : Row
d9 =
    session "D9" 2
    (control 1 131 ∷ control 2 131 ∷ fetch 0x00 ∷ strobe_to 1 0 ∷ strobe_to 1 1 ∷ strobe_to 2 0 ∷ strobe_to 2 1 gives answer 0 2 1 2 ∷ [])
    ([])

-- S1: ED 45 is RETN and ends no service, nor does ED 5D
abbrev pub s1_1 : Row
s1_1 =
    session "S1.1" 1
    (control 0 131 ∷ fetch 0x00 ∷ strobe_to 0 0 ∷ strobe_to 0 1 ∷ acknowledge ∷ fetch 0xED ∷ fetch 0x45 ∷ [])
    (some 0 (service ≔ 1 ∷ []) ∷ [])

abbrev pub s1_2 : Row
s1_2 =
    session "S1.2" 1
    (control 0 131 ∷ fetch 0x00 ∷ strobe_to 0 0 ∷ strobe_to 0 1 ∷ acknowledge ∷ fetch 0xED ∷ fetch 0x5D ∷ [])
    (some 0 (service ≔ 1 ∷ []) ∷ [])

-- S2: a reset keeps the input register
abbrev pub s2 : Row
s2 =
    session "S2" 1
    (lines_to 0 85 ∷ strobe_to 0 0 ∷ strobe_to 0 1 ∷ reset ∷ [])
    (some 0 (input ≔ 85 ∷ []) ∷ [])

-- S3: a reset clears an awaited word
abbrev pub s3_1 : Row
s3_1 =
    session "S3.1" 1
    (control 0 207 ∷ reset ∷ control 0 15 ∷ [])
    (some 0 (mode ≔ 0 ∷ []) ∷ [])

abbrev pub s3_2 : Row
s3_2 =
    session "S3.2" 1
    (control 0 23 ∷ reset ∷ control 0 15 ∷ [])
    (some 0 (mode ≔ 0 ∷ []) ∷ [])

-- S4: an interrupt control word that disables drops no waiting interrupt
abbrev pub s4 : Row
s4 =
    session "S4" 1
    (control 0 131 ∷ strobe_to 0 0 ∷ strobe_to 0 1 ∷ control 0 7 ∷ [])
    (some 0 (waiting ≔ 1 ∷ asked ≔ 0 ∷ []) ∷ [])

-- S5: outside levels do not forget an open ED
abbrev pub s5 : Row
s5 =
    session "S5" 1
    (control 0 131 ∷ fetch 0x00 ∷ strobe_to 0 0 ∷ strobe_to 0 1 ∷ acknowledge ∷ fetch 0xED ∷ lines_to 0 0 ∷ fetch 0x4D ∷ [])
    (some 0 (service ≔ 0 ∷ []) ∷ [])

-- S6: a mode 2 word to B is refused also while A is in mode 2
abbrev pub s6 : Row
s6 =
    session "S6" 1
    (control 0 143 ∷ control 1 143 gives answer 20 1 143 0 ∷ [])
    ([])

-- S7: each of the other forms that no control word has; P6 is 1001
abbrev pub s7_1 : Row
s7_1 =
    session "S7.1" 1
    (control 0 129 gives answer 19 0 129 0 ∷ [])
    ([])

abbrev pub s7_2 : Row
s7_2 =
    session "S7.2" 1
    (control 0 133 gives answer 19 0 133 0 ∷ [])
    ([])

abbrev pub s7_3 : Row
s7_3 =
    session "S7.3" 1
    (control 0 139 gives answer 19 0 139 0 ∷ [])
    ([])

abbrev pub s7_4 : Row
s7_4 =
    session "S7.4" 1
    (control 0 141 gives answer 19 0 141 0 ∷ [])
    ([])

-- S8: a repeated write or read leaves Ready high
abbrev pub s8_1 : Row
s8_1 =
    session "S8.1" 1
    (control 0 15 ∷ write 0 1 ∷ write 0 2 ∷ [])
    (some 0 (ready ≔ 1 ∷ []) ∷ [])

abbrev pub s8_2 : Row
s8_2 =
    session "S8.2" 1
    (read 0 ∷ read 0 ∷ [])
    (some 0 (ready ≔ 1 ∷ []) ∷ [])

-- S9: a refused strobe value leaves the strobe's level
abbrev pub s9 : Row
s9 =
    session "S9" 1
    (strobe_to 0 0 ∷ strobe_to 0 2 gives answer 18 0 2 0 ∷ [])
    (some 0 (strobe ≔ 0 ∷ waiting ≔ 0 ∷ []) ∷ [])

-- S10: a word of no defined form is refused for its fourth byte first, and for its place before that
abbrev pub s10_1 : Row
s10_1 =
    session "S10.1" 1
    (bytes (3 ∷ 0 ∷ 9 ∷ 1 ∷ []) gives answer 18 0 9 0 ∷ [])
    ([])

abbrev pub s10_2 : Row
s10_2 =
    session "S10.2" 1
    (control 2 9 gives answer 17 2 9 0 ∷ [])
    ([])

-- S11: other than four bytes: 32 also on a board that is not sound, place and value 0, and an open ED stays open
abbrev pub s11_1 : Row
s11_1 =
    refused "S11.1" 0
    (bytes (0 ∷ 0 ∷ 0 ∷ []) gives answer 32 0 0 0 ∷ [])
    ([])

abbrev pub s11_2 : Row
s11_2 =
    session "S11.2" 2
    (bytes (4 ∷ 3 ∷ 9 ∷ []) gives answer 32 0 0 0 ∷ [])
    ([])

abbrev pub s11_3 : Row
s11_3 =
    session "S11.3" 1
    (control 0 131 ∷ fetch 0x00 ∷ strobe_to 0 0 ∷ strobe_to 0 1 ∷ acknowledge ∷ fetch 0xED ∷ bytes (1 ∷ 0 ∷ 0 ∷ []) ∷ fetch 0x4D ∷ [])
    (some 0 (service ≔ 0 ∷ []) ∷ [])

-- S12: bits 5 and 4 of a mode word are ignored
abbrev pub s12 : Row
s12 =
    session "S12" 1
    (control 0 63 gives answer 0 0 63 0 ∷ [])
    (some 0 (mode ≔ 0 ∷ []) ∷ [])

-- S13: a mode 3 word keeps the select register until the new one comes
abbrev pub s13 : Row
s13 =
    session "S13" 1
    (control 0 207 ∷ control 0 240 ∷ control 0 207 ∷ [])
    (some 0 (select ≔ 240 ∷ driven ≔ 15 ∷ []) ∷ [])

-- S14: the mask stays until the new one comes
abbrev pub s14 : Row
s14 =
    session "S14" 1
    (control 0 23 ∷ control 0 0 ∷ control 0 23 ∷ [])
    (some 0 (mask ≔ 0 ∷ awaiting ≔ 2 ∷ []) ∷ [])

-- S15: A entering mode 2 lowers B's Ready
abbrev pub s15 : Row
s15 =
    session "S15" 1
    (read 1 ∷ control 0 143 ∷ [])
    (some 1 (ready ≔ 0 ∷ []) ∷ [])

-- S16: a mode 0 read leaves Ready
abbrev pub s16 : Row
s16 =
    session "S16" 1
    (control 0 15 ∷ read 0 gives answer 1 0 0 0 ∷ [])
    (some 0 (ready ≔ 0 ∷ []) ∷ [])

-- S17: mode 2 of one A leaves the B of another chip alone
abbrev pub s17 : Row
s17 =
    session "S17" 2
    (control 0 143 ∷ read 3 ∷ [])
    (some 3 (ready ≔ 1 ∷ []) ∷ [])

-- S18: no match but in mode 3
abbrev pub s18 : Row
s18 =
    session "S18" 1
    (control 0 207 ∷ control 0 255 ∷ control 0 55 ∷ control 0 0 ∷ control 0 15 ∷ lines_to 0 1 ∷ [])
    (some 0 (matched ≔ 0 ∷ waiting ≔ 0 ∷ []) ∷ [])

-- S19: a match makes a disabled port wait
abbrev pub s19 : Row
s19 =
    session "S19" 1
    (control 0 207 ∷ control 0 255 ∷ control 0 55 ∷ control 0 0 ∷ lines_to 0 1 ∷ [])
    (some 0 (asked ≔ 0 ∷ waiting ≔ 1 ∷ []) ∷ [])

-- S20: a RETI releases a port that was disabled under service
abbrev pub s20 : Row
s20 =
    session "S20" 1
    (control 0 131 ∷ fetch 0x00 ∷ strobe_to 0 0 ∷ strobe_to 0 1 ∷ acknowledge ∷ control 0 3 ∷ fetch 0xED ∷ fetch 0x4D ∷ [])
    (some 0 (service ≔ 0 ∷ []) ∷ [])

-- S21: DD, FD and CB open nothing
abbrev pub s21_1 : Row
s21_1 =
    session "S21.1" 1
    (control 0 131 ∷ fetch 0x00 ∷ strobe_to 0 0 ∷ strobe_to 0 1 ∷ acknowledge ∷ fetch 0xDD ∷ fetch 0x4D ∷ [])
    (some 0 (service ≔ 1 ∷ []) ∷ [])

abbrev pub s21_2 : Row
s21_2 =
    session "S21.2" 1
    (control 0 131 ∷ fetch 0x00 ∷ strobe_to 0 0 ∷ strobe_to 0 1 ∷ acknowledge ∷ fetch 0xFD ∷ fetch 0x4D ∷ [])
    (some 0 (service ≔ 1 ∷ []) ∷ [])

abbrev pub s21_3 : Row
s21_3 =
    session "S21.3" 1
    (control 0 131 ∷ fetch 0x00 ∷ strobe_to 0 0 ∷ strobe_to 0 1 ∷ acknowledge ∷ fetch 0xCB ∷ fetch 0x4D ∷ [])
    (some 0 (service ≔ 1 ∷ []) ∷ [])

-- S22: a vector word sets the vector and nothing else
abbrev pub s22 : Row
s22 =
    session "S22" 1
    (control 0 15 ∷ control 0 131 ∷ fetch 0x00 ∷ strobe_to 0 0 ∷ strobe_to 0 1 ∷ write 0 1 ∷ control 0 32 gives answer 0 0 32 1 ∷ [])
    (every 0 (mode ≔ 0 ∷ ready ≔ 1 ∷ out ≔ 1 ∷ vector ≔ 32 ∷ asked ≔ 1 ∷ live ≔ 1 ∷ waiting ≔ 1 ∷ levels ≔ 1 ∷ driven ≔ 255 ∷ []) ∷ [])

-- S23: a write does not end the waiting
abbrev pub s23 : Row
s23 =
    session "S23" 1
    (strobe_to 0 0 ∷ strobe_to 0 1 ∷ write 0 1 ∷ [])
    (some 0 (waiting ≔ 1 ∷ []) ∷ [])

-- S24: nor does a select word, or a mask what came while it was awaited
abbrev pub s24_1 : Row
s24_1 =
    session "S24.1" 1
    (strobe_to 0 0 ∷ strobe_to 0 1 ∷ control 0 207 ∷ control 0 255 ∷ [])
    (some 0 (waiting ≔ 1 ∷ []) ∷ [])

abbrev pub s24_2 : Row
s24_2 =
    session "S24.2" 1
    (control 0 23 ∷ strobe_to 0 0 ∷ strobe_to 0 1 ∷ control 0 255 ∷ [])
    (some 0 (waiting ≔ 1 ∷ []) ∷ [])

-- S25: the strobe has no part in the match
abbrev pub s25 : Row
s25 =
    session "S25" 1
    (control 0 207 ∷ control 0 255 ∷ control 0 55 ∷ control 0 0 ∷ strobe_to 0 0 ∷ lines_to 0 1 ∷ [])
    (some 0 (waiting ≔ 1 ∷ []) ∷ [])

-- S26: no control word forgets an open ED: vector, mode, select, interrupt control with and without a mask
abbrev pub s26 : Row
s26 =
    session "S26" 1
    (control 0 131 ∷ fetch 0x00 ∷ strobe_to 0 0 ∷ strobe_to 0 1 ∷ acknowledge ∷ fetch 0xED ∷ control 1 2 ∷ control 1 207 ∷
    control 1 255 ∷ control 1 7 ∷ control 1 23 ∷ control 1 255 ∷ fetch 0x4D ∷ [])
    (some 0 (service ≔ 0 ∷ []) ∷ [])

-- S27: ED that is written, read or on the lines is not fetched and opens nothing; nor does a 4D that is written close
abbrev pub s27_1 : Row
s27_1 =
    session "S27.1" 1
    (control 0 131 ∷ fetch 0x00 ∷ strobe_to 0 0 ∷ strobe_to 0 1 ∷ acknowledge ∷ control 1 207 ∷ control 1 237 ∷ write 1 237 ∷
    lines_to 1 237 ∷ read 1 gives answer 1 1 237 0 ∷ fetch 0x4D ∷ [])
    (some 0 (service ≔ 1 ∷ []) ∷ [])

abbrev pub s27_2 : Row
s27_2 =
    session "S27.2" 1
    (control 0 131 ∷ fetch 0x00 ∷ strobe_to 0 0 ∷ strobe_to 0 1 ∷ acknowledge ∷ fetch 0xED ∷ write 1 77 ∷ [])
    (some 0 (service ≔ 1 ∷ []) ∷ [])

abbrev pub s27_3 : Row
s27_3 =
    session "S27.3" 1
    (control 0 131 ∷ fetch 0x00 ∷ strobe_to 0 0 ∷ strobe_to 0 1 ∷ acknowledge ∷ fetch 0xED ∷ write 1 77 ∷ fetch 0x4D ∷ [])
    (some 0 (service ≔ 0 ∷ []) ∷ [])

-- S28: an awaited word is awaited whatever comes but a control byte
abbrev pub s28_1 : Row
s28_1 =
    session "S28.1" 1
    (control 0 23 ∷ write 0 1 ∷ read 0 ∷ strobe_to 0 0 ∷ strobe_to 0 1 ∷ lines_to 0 3 ∷ fetch 0x00 ∷ acknowledge ∷ [])
    (some 0 (awaiting ≔ 2 ∷ []) ∷ [])

abbrev pub s28_2 : Row
s28_2 =
    session "S28.2" 1
    (control 0 207 ∷ write 0 1 ∷ read 0 ∷ strobe_to 0 0 ∷ strobe_to 0 1 ∷ lines_to 0 3 ∷ fetch 0x00 ∷ acknowledge ∷ [])
    (some 0 (awaiting ≔ 1 ∷ []) ∷ [])

-- S29: the fourth byte counts in every kind; R3 has it in a fetch, C7.1 in a control write
abbrev pub s29 : Row
s29 =
    session "S29" 1
    (bytes (0 ∷ 0 ∷ 0 ∷ 1 ∷ []) gives answer 18 0 0 0 ∷ bytes (2 ∷ 0 ∷ 0 ∷ 1 ∷ []) gives answer 18 0 0 0 ∷
    bytes (4 ∷ 0 ∷ 1 ∷ 1 ∷ []) gives answer 18 0 1 0 ∷ bytes (5 ∷ 0 ∷ 0 ∷ 1 ∷ []) gives answer 18 0 0 0 ∷
    bytes (6 ∷ 0 ∷ 0 ∷ 1 ∷ []) gives answer 18 0 0 0 ∷ bytes (7 ∷ 0 ∷ 1 ∷ 1 ∷ []) gives answer 18 0 1 0 ∷ [])
    (every 0 [] ∷ [])

-- S30: a place not on the board is refused in every kind that has a place, whatever the control word
abbrev pub s30 : Row
s30 =
    session "S30" 1
    (control 2 32 gives answer 17 2 32 0 ∷ control 2 129 gives answer 17 2 129 0 ∷ control 2 143 gives answer 17 2 143 0 ∷
    write 2 1 gives answer 17 2 1 0 ∷ read 2 gives answer 17 2 0 0 ∷ strobe_to 2 0 gives answer 17 2 0 0 ∷
    lines_to 2 1 gives answer 17 2 1 0 ∷ [])
    (every 2 (code ≔ 17 ∷ []) ∷ [])

-- S31: sizes far outside 1 to 4
abbrev pub s31_1 : Row
s31_1 =
    refused "S31.1" 256
    (reset gives answer 35 0 0 0 ∷ [])
    ([])

abbrev pub s31_2 : Row
s31_2 =
    refused "S31.2" 257
    (reset gives answer 35 0 0 0 ∷ [])
    ([])

-- S32: an interrupt control word that disables takes asked and live at once
abbrev pub s32 : Row
s32 =
    session "S32" 1
    (control 0 131 ∷ fetch 0x00 ∷ control 0 7 ∷ [])
    (some 0 (asked ≔ 0 ∷ live ≔ 0 ∷ []) ∷ [])

-- S33: a fetch makes live also a port under service
abbrev pub s33 : Row
s33 =
    session "S33" 1
    (control 0 131 ∷ fetch 0x00 ∷ strobe_to 0 0 ∷ strobe_to 0 1 ∷ acknowledge ∷ control 0 3 ∷ control 0 131 ∷ fetch 0x00 ∷ [])
    (some 0 (live ≔ 1 ∷ service ≔ 1 ∷ []) ∷ [])

-- S34: a write raises Ready of a mode 0 B
abbrev pub s34 : Row
s34 =
    session "S34" 1
    (control 1 15 ∷ write 1 1 ∷ [])
    (some 1 (ready ≔ 1 ∷ []) ∷ [])

-- S35: AND over Low
abbrev pub s35_1 : Row
s35_1 =
    session "S35.1" 1
    (lines_to 0 3 ∷ control 0 207 ∷ control 0 255 ∷ control 0 87 ∷ control 0 252 ∷ lines_to 0 1 ∷ [])
    (some 0 (matched ≔ 0 ∷ waiting ≔ 0 ∷ []) ∷ [])

abbrev pub s35_2 : Row
s35_2 =
    session "S35.2" 1
    (lines_to 0 3 ∷ control 0 207 ∷ control 0 255 ∷ control 0 87 ∷ control 0 252 ∷ lines_to 0 0 ∷ [])
    (some 0 (matched ≔ 1 ∷ waiting ≔ 1 ∷ []) ∷ [])

-- S36: the vector is the answering port's own
abbrev pub s36 : Row
s36 =
    session "S36" 2
    (control 0 16 ∷ control 2 18 ∷ control 2 131 ∷ fetch 0x00 ∷ strobe_to 2 0 ∷ strobe_to 2 1 ∷ acknowledge gives answer 2 2 18 0 ∷ [])
    ([])

-- S37: the last place of the largest board is named by 8
abbrev pub s37 : Row
s37 =
    session "S37" 4
    (control 7 131 ∷ fetch 0x00 ∷ strobe_to 7 0 ∷ strobe_to 7 1 gives answer 0 7 1 8 ∷ [])
    ([])

abbrev pub rows : List Row
rows =
    p1 ∷ p2 ∷ p3 ∷ p4 ∷ p5 ∷ p6 ∷ p7 ∷ p8 ∷ p9 ∷ p10 ∷ p11 ∷ p12 ∷ l1 ∷ e1 ∷ e2 ∷ e3 ∷ e4 ∷ w1 ∷ w2 ∷ w3 ∷ m1 ∷ m2 ∷ m3 ∷ m4 ∷ m5 ∷ m6 ∷
    m7 ∷ m8 ∷ r1 ∷ r2 ∷ r3 ∷ r4 ∷ r5 ∷ r6 ∷ r7 ∷ r8 ∷ r9 ∷ r10 ∷ r11 ∷ r12 ∷ r13 ∷ r14 ∷ r15 ∷ f1 ∷ f2 ∷ f3 ∷ f4 ∷ f5 ∷ f6 ∷ f7 ∷ f8 ∷
    f9 ∷ f10 ∷ f11 ∷ f12 ∷ f13 ∷ f14 ∷ f15 ∷ f16 ∷ f17 ∷ f18 ∷ f19 ∷ f20 ∷ f21 ∷ f22 ∷ f23 ∷ f24 ∷ f25 ∷ f26 ∷ f27 ∷ f28 ∷ f29 ∷ f30 ∷
    f31 ∷ a1 ∷ a2_1 ∷ a2_2 ∷ a3 ∷ a4 ∷ a5 ∷ a6 ∷ a7 ∷ a8 ∷ a9_1 ∷ a9_2 ∷ a10 ∷ a11 ∷ a12 ∷ a13_1 ∷ a13_2 ∷ a14_1 ∷ a14_2 ∷ a14_3 ∷ a15_1
    ∷ a15_2 ∷ a16 ∷ a18_1 ∷ a18_2 ∷ b1_1 ∷ b1_2 ∷ b2_1 ∷ b2_2 ∷ b3_1 ∷ b3_2 ∷ b4_1 ∷ b4_2 ∷ b4_3 ∷ b5_1 ∷ b5_2 ∷ b5_3 ∷ b6_1 ∷ b6_2 ∷
    b7_1 ∷ b7_2 ∷ b7_3 ∷ b8 ∷ b9_1 ∷ b9_2 ∷ b10_1 ∷ b10_2 ∷ b11 ∷ b12_1 ∷ b12_2 ∷ b12_3 ∷ b13 ∷ b14_1 ∷ b14_2 ∷ b15_1 ∷ b15_2 ∷ b15_3 ∷
    b15_4 ∷ b15_5 ∷ b16_1 ∷ b16_2 ∷ b17_1 ∷ b17_2 ∷ b17_3 ∷ b18 ∷ b19 ∷ b20_1 ∷ b20_2 ∷ b21 ∷ b22_1 ∷ b22_2 ∷ b22_3 ∷ b22_4 ∷ b23_1 ∷
    b23_2 ∷ b24_1 ∷ b24_2 ∷ b24_3 ∷ b25 ∷ b26 ∷ b27_1 ∷ b27_2 ∷ b27_3 ∷ b27_4 ∷ b28_1 ∷ b28_2 ∷ b29_1 ∷ b29_2 ∷ c1_1 ∷ c1_2 ∷ c2 ∷ c3 ∷
    c4_1 ∷ c4_2 ∷ c4_3 ∷ c5_1 ∷ c5_2 ∷ c5_3 ∷ c6_1 ∷ c6_2 ∷ c7_1 ∷ c7_2 ∷ c8_1 ∷ c8_2 ∷ c8_3 ∷ c8_4 ∷ c11_1 ∷ c11_2 ∷ d6_1 ∷ d6_2 ∷ d7 ∷
    d8 ∷ d9 ∷ s1_1 ∷ s1_2 ∷ s2 ∷ s3_1 ∷ s3_2 ∷ s4 ∷ s5 ∷ s6 ∷ s7_1 ∷ s7_2 ∷ s7_3 ∷ s7_4 ∷ s8_1 ∷ s8_2 ∷ s9 ∷ s10_1 ∷ s10_2 ∷ s11_1 ∷
    s11_2 ∷ s11_3 ∷ s12 ∷ s13 ∷ s14 ∷ s15 ∷ s16 ∷ s17 ∷ s18 ∷ s19 ∷ s20 ∷ s21_1 ∷ s21_2 ∷ s21_3 ∷ s22 ∷ s23 ∷ s24_1 ∷ s24_2 ∷ s25 ∷ s26
    ∷ s27_1 ∷ s27_2 ∷ s27_3 ∷ s28_1 ∷ s28_2 ∷ s29 ∷ s30 ∷ s31_1 ∷ s31_2 ∷ s32 ∷ s33 ∷ s34 ∷ s35_1 ∷ s35_2 ∷ s36 ∷ s37 ∷ []
