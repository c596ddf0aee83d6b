-- The numbers of kinds in the format.
use Rattle.std.specs.Prelude.{ℕ}
use Rattle.drafts.specs.declared.kind.Kind.{Kind}
use Rattle.drafts.specs.declared.kind.Kind.TheVariants.{Identifier, Constant, NumericLiteral, BigIntLiteral, StringLiteral, TemplateLiteral, UnaryExpression, UpdateExpression, BinaryExpression, LogicalExpression, AssignmentExpression, ConditionalExpression, SequenceExpression, ParenthesizedExpression, TypeScriptExpression, ArrayExpression, ObjectExpression, StaticMemberExpression, ComputedMemberExpression, PrivateFieldExpression, PrivateInExpression, ChainExpression, CallExpression, Function, ClassExpression, SpreadElement, Elision, ObjectProperty, SpreadProperty, Decorator, MethodDefinition, PropertyDefinition, StaticBlock, AssignmentTargetPattern, VariableDeclarator, SwitchCase, CatchClause, BindingIdentifier, ArrayPattern, ObjectPattern, AssignmentPattern, BindingProperty, BindingRestElement, BlockStatement, ExpressionStatement, WhileStatement, IfStatement, LabeledStatement, ReturnStatement, SwitchStatement, TryStatement, EmptyStatement, ActingStatement, VariableDeclaration, FunctionDeclaration, ClassDeclaration, TypeScriptDeclaration}

abbrev pub number_of : Kind → ℕ
number_of Identifier = 1
number_of Constant = 2
number_of NumericLiteral = 3
number_of BigIntLiteral = 4
number_of StringLiteral = 5
number_of TemplateLiteral = 6
number_of UnaryExpression = 7
number_of UpdateExpression = 8
number_of BinaryExpression = 9
number_of LogicalExpression = 10
number_of AssignmentExpression = 11
number_of ConditionalExpression = 12
number_of SequenceExpression = 13
number_of ParenthesizedExpression = 14
number_of TypeScriptExpression = 15
number_of ArrayExpression = 16
number_of ObjectExpression = 17
number_of StaticMemberExpression = 18
number_of ComputedMemberExpression = 19
number_of PrivateFieldExpression = 20
number_of PrivateInExpression = 21
number_of ChainExpression = 22
number_of CallExpression = 23
number_of Function = 24
number_of ClassExpression = 25
number_of SpreadElement = 30
number_of Elision = 31
number_of ObjectProperty = 32
number_of SpreadProperty = 33
number_of Decorator = 34
number_of MethodDefinition = 35
number_of PropertyDefinition = 36
number_of StaticBlock = 37
number_of AssignmentTargetPattern = 38
number_of VariableDeclarator = 39
number_of SwitchCase = 40
number_of CatchClause = 41
number_of BindingIdentifier = 42
number_of ArrayPattern = 43
number_of ObjectPattern = 44
number_of AssignmentPattern = 45
number_of BindingProperty = 46
number_of BindingRestElement = 47
number_of BlockStatement = 50
number_of ExpressionStatement = 51
number_of WhileStatement = 52
number_of IfStatement = 53
number_of LabeledStatement = 54
number_of ReturnStatement = 55
number_of SwitchStatement = 56
number_of TryStatement = 57
number_of EmptyStatement = 58
number_of ActingStatement = 59
number_of VariableDeclaration = 60
number_of FunctionDeclaration = 61
number_of ClassDeclaration = 62
number_of TypeScriptDeclaration = 70
