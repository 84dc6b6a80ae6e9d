-- The load script: one member's pegged orders, quotes that move them, and one order that trades with some of them.
use Rattle.std.specs.Prelude.{ℕ, ◌+◌, ◌-◌, ◌%◌, ◌==◌, List, [], ◌∷◌, ◌++◌, map, get_or, codes, decimal, if◌then◌else◌}
use Rattle.std.specs.List.{range_with_len}

-- the header with this limit on events, the member's Logon, and the first quote
abbrev pub first_lines : ℕ → List (List ℕ)
first_lines limit =
    codes "PEGV 1"
    ∷ codes "MEMBER A"
    ∷ codes "MARKET M"
    ∷ (codes "SYMBOL L " ++ decimal limit)
    ∷ codes "BEGIN 20240102-14:30:00.000"
    ∷ codes "M A 35=A|49=A|56=PEGV|34=1|52=20240102-14:30:00|98=0|108=30|1137=9|"
    ∷ codes "Q L M 10.00 10.02"
    ∷ []

-- an order up to its ClOrdID, which is a number; its MsgSeqNum is one more
unfoldable pub order_front : ℕ → List ℕ
order_front id =
    codes "M A 35=D|49=A|56=PEGV|34=" ++ decimal (id + 1) ++ codes "|52=20240102-14:30:00|11=" ++ decimal id

-- an offset of so many ticks below
unfoldable pub offset_text : ℕ → List ℕ
offset_text ticks = if ticks == 0 then codes "0" else codes "-" ++ decimal ticks

-- the i-th order buys 100 shares at the bid less i mod 8 ticks
unfoldable pub order_line : ℕ → List ℕ
order_line i =
    order_front i ++ codes "|55=L|54=1|38=100|40=P|1094=5|836=2|211=" ++ offset_text (i % 8)
    ++ codes "|60=20240102-14:30:00|"

-- the k-th quote moves the market up by a cent and back again
unfoldable pub quote_line : ℕ → List ℕ
quote_line k = if k % 2 == 1 then codes "Q L M 10.01 10.03" else codes "Q L M 10.00 10.02"

-- the order behind all others sells 1,000 shares at 9.98 or better at once
unfoldable pub last_line : ℕ → List ℕ
last_line orders =
    order_front (orders + 1) ++ codes "|55=L|54=2|38=1000|40=2|44=9.98|59=3|60=20240102-14:30:00|"

-- the lines of the load script, without their LFs
unfoldable pub load_lines : ℕ → ℕ → List (List ℕ)
load_lines orders quotes =
    first_lines (orders + quotes + 2)
    ++ map order_line (range_with_len 1 orders)
    ++ map quote_line (range_with_len 1 quotes)
    ++ last_line orders ∷ []

-- the line of a number, counted from 1; behind the last one stands the empty text
abbrev pub load_line : ℕ → ℕ → ℕ → List ℕ
load_line orders quotes number = get_or (load_lines orders quotes) (number - 1) []
