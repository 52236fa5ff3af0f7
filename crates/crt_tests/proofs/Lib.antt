mod Modulo
