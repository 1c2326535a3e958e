-- The codes of refusals: their numbers and words.
use Rattle.std.specs.Prelude.{ℕ, List, codes}
use Rattle.lisp_data.specs.declared.code.Code.{Code}
use Rattle.lisp_data.specs.declared.code.Code.TheVariants.{BadByte, UnclosedList, StrayClose, BadDot, BadNumber, IntegerTooWide, TooDeep, BookTooLong, SymbolTooLong, UnclosedText, NotAnEvent, BadForm, KeyNotKnown, BookNotKnown, TermTooLarge, NameTaken, UnknownName, WrongArity, UnboundVariable, RepeatedFormal, NestedRecursion, NoMeasure, NotASpec, NotAFunction, HasFunctionVariables, NoInstance, ShapeMismatch, BaseNotGround, ChainBroken, NotProved, StepLimit, ProofWrong, RingTooWide, RingTooLarge, EvalTooManyCalls, EvalTooWide, EvalTooLarge, LogMissing, LogForm, LogLeftOver}

-- from 1 to 40
abbrev pub number : Code → ℕ
number BadByte = 1
number UnclosedList = 2
number StrayClose = 3
number BadDot = 4
number BadNumber = 5
number IntegerTooWide = 6
number TooDeep = 7
number BookTooLong = 8
number SymbolTooLong = 9
number UnclosedText = 10
number NotAnEvent = 11
number BadForm = 12
number KeyNotKnown = 13
number BookNotKnown = 14
number TermTooLarge = 15
number NameTaken = 16
number UnknownName = 17
number WrongArity = 18
number UnboundVariable = 19
number RepeatedFormal = 20
number NestedRecursion = 21
number NoMeasure = 22
number NotASpec = 23
number NotAFunction = 24
number HasFunctionVariables = 25
number NoInstance = 26
number ShapeMismatch = 27
number BaseNotGround = 28
number ChainBroken = 29
number NotProved = 30
number StepLimit = 31
number ProofWrong = 32
number RingTooWide = 33
number RingTooLarge = 34
number EvalTooManyCalls = 35
number EvalTooWide = 36
number EvalTooLarge = 37
number LogMissing = 38
number LogForm = 39
number LogLeftOver = 40

-- what a line of the report calls it
abbrev pub word : Code → List ℕ
word BadByte = codes "BadByte"
word UnclosedList = codes "UnclosedList"
word StrayClose = codes "StrayClose"
word BadDot = codes "BadDot"
word BadNumber = codes "BadNumber"
word IntegerTooWide = codes "IntegerTooWide"
word TooDeep = codes "TooDeep"
word BookTooLong = codes "BookTooLong"
word SymbolTooLong = codes "SymbolTooLong"
word UnclosedText = codes "UnclosedText"
word NotAnEvent = codes "NotAnEvent"
word BadForm = codes "BadForm"
word KeyNotKnown = codes "KeyNotKnown"
word BookNotKnown = codes "BookNotKnown"
word TermTooLarge = codes "TermTooLarge"
word NameTaken = codes "NameTaken"
word UnknownName = codes "UnknownName"
word WrongArity = codes "WrongArity"
word UnboundVariable = codes "UnboundVariable"
word RepeatedFormal = codes "RepeatedFormal"
word NestedRecursion = codes "NestedRecursion"
word NoMeasure = codes "NoMeasure"
word NotASpec = codes "NotASpec"
word NotAFunction = codes "NotAFunction"
word HasFunctionVariables = codes "HasFunctionVariables"
word NoInstance = codes "NoInstance"
word ShapeMismatch = codes "ShapeMismatch"
word BaseNotGround = codes "BaseNotGround"
word ChainBroken = codes "ChainBroken"
word NotProved = codes "NotProved"
word StepLimit = codes "StepLimit"
word ProofWrong = codes "ProofWrong"
word RingTooWide = codes "RingTooWide"
word RingTooLarge = codes "RingTooLarge"
word EvalTooManyCalls = codes "EvalTooManyCalls"
word EvalTooWide = codes "EvalTooWide"
word EvalTooLarge = codes "EvalTooLarge"
word LogMissing = codes "LogMissing"
word LogForm = codes "LogForm"
word LogLeftOver = codes "LogLeftOver"
